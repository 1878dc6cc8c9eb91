-- A group log at every moment, and what a crash leaves of it.
use Rattle.std.specs.Prelude.{◌≡◌, ℕ, ◌+◌, ◌-◌, ◌≤◌, List, [], ◌∷◌, ◌++◌, length, take}
use Rattle.journal.specs.Crash.{IsLeft}
use Rattle.journal.specs.Frame.{AreLogged, Fits, Logged, frame_bytes}
use Rattle.logging.specs.Device.{Device}
use Rattle.logging.specs.Left.{IsNoChance, MayLeave}
use Rattle.group_commit.specs.Batch.{IsBatch, SyncedAtMost, payloads_of}
use Rattle.group_commit.specs.GroupLog.{GroupLogState, Holds, HoldsNow}

-- a batch and the frame of the commit after it, whose head calls at most durable what is written before the batch
abbrev pub ABatchGrows : Type 0
ABatchGrows = (seed base : ℕ) (from to : List (List ℕ)) (bytes : List ℕ) (l : Logged)
    → IsBatch seed base from to bytes → l.number ≡ (base + 1) + length to → Fits l → l.synced ≤ base + length from
    → IsBatch seed base from (to ++ l.payload ∷ []) (bytes ++ frame_bytes seed l)

-- a device during a call that hands it bytes: it has taken a prefix of them, and lost nothing that was safe
pub record IsMidWrite (old : Device) (bytes : List ℕ) (now : Device) : Type 0 where
  pub taken : ℕ
  pub appended : now.appended ≡ old.appended ++ take taken bytes
  pub safe : old.safe ≤ now.safe

-- while a batch is being written the log holds what it held
abbrev pub ABatchAtAnyMoment : Type 0
ABatchAtAnyMoment = (front : List ℕ) (base seed : ℕ) (d : GroupLogState) (to : List (List ℕ)) (bytes : List ℕ) (now : Device)
    → Holds front base seed d → d.log.device.failures ≡ 0 → IsBatch seed base d.written to bytes
    → IsMidWrite d.log.device bytes now
    → HoldsNow front base seed now d.written to

-- a crash at any moment leaves the front, and behind it what a crash leaves of a journal of the commits that were tried, of which
-- those that are written were safe. No frame's head tells of a commit that isn't written, so the premise on checks, that of journals,
-- is on chance alone
abbrev pub ACrashLeavesWhatIsWritten : Type 0
ACrashLeavesWhatIsWritten = (front : List ℕ) (base seed : ℕ) (device : Device) (written tried : List (List ℕ)) (bytes : List ℕ)
    → HoldsNow front base seed device written tried → (left : MayLeave device.appended device.safe bytes)
    → (rest : List ℕ) × (bytes ≡ front ++ rest)
    × (logged : List Logged) × AreLogged (base + 1) logged × (payloads_of logged ≡ tried)
    × (IsNoChance seed (base + 1) logged (left.size - length front) left.other rest
    → IsLeft seed (base + 1) logged (length written) rest)
    × SyncedAtMost (base + length written) logged
