-- What a journal has of the commits that were answered, step by step and after a crash.
use Rattle.std.specs.Prelude.{◌≡◌, ◌≤◌, ℕ, ◌+◌, ◌-◌, ◌^◌, List, [], ◌∷◌, ◌++◌, length, map, take}
use Rattle.model.specs.declared.write.CommitReply.{CommitReply}
use Rattle.model.specs.declared.write.CommitReply.TheVariants.{Committed}
use Rattle.txn.specs.Txn.{IsTransaction, Transaction, effects_of}
use Rattle.codec.specs.Reading.{decoded}
use Rattle.journal.specs.Frame.{frame_bytes, journal_bytes}
use Rattle.journal.specs.Laws.{IsSeed}
use Rattle.logging.specs.Left.{IsNoChance, MayLeave}
use Rattle.manager.specs.Managed.{IsDecided, IsManaged, IsOwn, reply_due}
use Rattle.replay.specs.Recovered.{IsCrashed}
use Rattle.replay.specs.Replayed.{AreSaid}
use Rattle.durable.specs.Durable.{Durable, IsLogged, IsReadAgain, logged_of}
use Rattle.durable.specs.Journaled.{IsJournaled, Journal, journal_with}

-- a commit that is answered joins the journal where it is committed, and any other reply leaves it
abbrev pub ACommitIsJournaled : Type 0
ACommitIsJournaled =
    (old new : Durable) (txn : Transaction) (reply : CommitReply) (j : Journal)
    → IsManaged old.manager → IsTransaction txn → IsOwn old.manager txn → IsJournaled old j
    → IsDecided old.manager txn reply new.manager → IsLogged old txn reply new → IsJournaled new (journal_with old txn reply j)

-- Wherever a crash falls between two calls: behind what stood in front it leaves the frames of all commits that were answered,
-- as recovery asks for them, with payloads that it reads. The premise on checks is that of journals
abbrev pub ACrashLeavesTheCommits : Type 0
ACrashLeavesTheCommits =
    (d : Durable) (j : Journal) (bytes : List ℕ)
    → IsJournaled d j → IsSeed d.log.seed → (j.base + 1) + length j.logged ≤ 2 ^ 63
    → length d.log.device.appended ≤ d.log.device.safe
    → (left : MayLeave d.log.device.appended d.log.device.safe bytes)
    → let frames = journal_bytes d.log.seed j.logged in
    (bytes ≡ j.front ++ (frames ++ left.other))
    × (IsNoChance d.log.seed (j.base + 1) j.logged (length frames) left.other (frames ++ left.other)
    → (crash : IsCrashed (decoded d.manager.schema d.table) d.manager.schema d.log.seed j.base j.table j.commits (length j.commits)
    (frames ++ left.other))
    × AreSaid d.manager.schema d.table j.table j.commits (map (λ l. l.payload) crash.logged))

-- And wherever it falls in the midst of a commit, or after one that failed: the frames of all commits that were answered, and maybe
-- that of this one. The commit is granted, and its payload is one that is read again
abbrev pub ACrashInACommit : Type 0
ACrashInACommit =
    (d : Durable) (txn : Transaction) (n : ℕ) (j : Journal) (taken safe : ℕ) (bytes : List ℕ)
    → IsManaged d.manager → IsTransaction txn → IsOwn d.manager txn → IsJournaled d j
    → Committed n ≡ reply_due d.manager txn → IsReadAgain d txn (Committed n)
    → IsSeed d.log.seed → ((j.base + 1) + length j.logged) + 1 ≤ 2 ^ 63
    → length d.log.device.appended ≤ safe
    → (left : MayLeave (d.log.device.appended ++ take taken (frame_bytes d.log.seed (logged_of d txn n))) safe bytes)
    → (rest : List ℕ) × (bytes ≡ j.front ++ rest)
    × (IsNoChance d.log.seed (j.base + 1) (j.logged ++ logged_of d txn n ∷ []) (left.size - length j.front) left.other rest
    → (crash : IsCrashed (decoded d.manager.schema d.table) d.manager.schema d.log.seed j.base j.table (j.commits ++ effects_of txn ∷ [])
    (length j.commits) rest)
    × AreSaid d.manager.schema d.table j.table (j.commits ++ effects_of txn ∷ []) (map (λ l. l.payload) crash.logged))
