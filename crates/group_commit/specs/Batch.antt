-- A batch: the frames that wait to be written.
use Rattle.std.specs.Prelude.{◌≡◌, ℕ, ◌+◌, ◌≤◌, List, ◌++◌, length, map, All}
use Rattle.journal.specs.Frame.{AreLogged, Logged, journal_bytes}

-- the payloads of frames
abbrev pub payloads_of : List Logged → List (List ℕ)
payloads_of logged = map (λ l. l.payload) logged

-- no frame's head says that a later commit than this one is durable
abbrev pub SyncedAtMost : ℕ → List Logged → Type 0
SyncedAtMost safe logged = All (λ l. l.synced ≤ safe) logged

-- the bytes are the frames of the commits after one prefix up to another, numbered from a base. Their heads call at most the first
-- prefix durable: it is, by the time they are written
pub record IsBatch (seed base : ℕ) (from to : List (List ℕ)) (bytes : List ℕ) : Type 0 where
  pub logged : List Logged
  pub spelt : bytes ≡ journal_bytes seed logged
  pub numbered : AreLogged ((base + 1) + length from) logged
  pub added : to ≡ from ++ payloads_of logged
  pub known : SyncedAtMost (base + length from) logged
