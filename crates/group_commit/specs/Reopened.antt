-- A journal that is read after a crash, and written again behind what was read.
use Rattle.std.specs.Prelude.{◌≡◌, ◌⊎◌, ℕ, ◌+◌, ◌-◌, ◌≤◌, ◌^◌, List, ◌++◌, length}
use mathlib.Core.List.{IsPrefix}
use Rattle.journal.specs.Frame.{AreLogged, Logged, journal_bytes}
use Rattle.journal.specs.Laws.{IsSeed}
use Rattle.journal.specs.Reading.{read_of, read_with}
use Rattle.journal.specs.declared.frame.Ending.{Ending}
use Rattle.journal.specs.declared.frame.Ending.TheVariants.{End, Torn}
use Rattle.logging.specs.Device.{Device}
use Rattle.logging.specs.Left.{IsNoChance, MayLeave}
use Rattle.group_commit.specs.Batch.{SyncedAtMost, payloads_of}
use Rattle.group_commit.specs.GroupLog.{HoldsNow}

-- the frames of the first commits behind a base, no head of which calls a later one durable
pub record AreOlder (base : ℕ) (older : List Logged) : Type 0 where
  pub numbered : AreLogged (base + 1) older
  pub known : SyncedAtMost (base + length older) older

-- what a log holds behind older frames, a log of the whole journal holds
abbrev pub AReopenedJournalIsOne : Type 0
AReopenedJournalIsOne = (front : List ℕ) (base seed : ℕ) (older : List Logged) (device : Device) (written tried : List (List ℕ))
    → AreOlder base older → HoldsNow (front ++ journal_bytes seed older) (base + length older) seed device written tried
    → HoldsNow front base seed device (payloads_of older ++ written) (payloads_of older ++ tried)

-- bytes read as older frames and no damage: those of all that is written, and maybe of some that were tried
pub record ReadAsOlder (base seed : ℕ) (written tried : List (List ℕ)) (bytes : List ℕ) : Type 0 where
  pub older : List Logged
  pub rest : List ℕ
  pub ending : Ending
  pub reads : read_of seed (base + 1) bytes ≡ read_with older ending rest
  pub sound : (ending ≡ End) ⊎ (ending ≡ Torn)
  pub spelt : bytes ≡ journal_bytes seed older ++ rest
  pub are_older : AreOlder base older
  pub all : IsPrefix written (payloads_of older)
  pub few : IsPrefix (payloads_of older) tried

-- what a crash at any moment leaves behind the front is read as frames that a log may be opened behind
abbrev pub ACrashLeavesOlderFrames : Type 0
ACrashLeavesOlderFrames = (front : List ℕ) (base seed : ℕ) (device : Device) (written tried : List (List ℕ)) (bytes : List ℕ)
    → HoldsNow front base seed device written tried → IsSeed seed → (base + 1) + length tried ≤ 2 ^ 63
    → (left : MayLeave device.appended device.safe bytes)
    → (rest : List ℕ) × (bytes ≡ front ++ rest) × (logged : List Logged)
    × (IsNoChance seed (base + 1) logged (left.size - length front) left.other rest → ReadAsOlder base seed written tried rest)
