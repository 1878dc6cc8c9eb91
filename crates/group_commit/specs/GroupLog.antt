-- What a group log has written, and what it has tried to write.
use Rattle.std.specs.Prelude.{◌≡◌, ℕ, ◌+◌, ◌≤◌, List, [], ◌++◌, length, take}
use Rattle.journal.specs.Frame.{AreLogged, Logged, journal_bytes}
use Rattle.logging.specs.Device.{Device}
use Rattle.logging.specs.Log.{FailsOver, Log}
use Rattle.group_commit.specs.declared.fault.WriteFault.{WriteFault}
use Rattle.group_commit.specs.declared.fault.WriteFault.TheVariants.{Unsure, Failed}
use Rattle.group_commit.specs.Batch.{SyncedAtMost, payloads_of}

-- the log, the payloads of the commits that are written, the same with those of the last batch that was tried, and the number up to
-- which commits are acknowledged
pub record GroupLogState : Type 0 where
  pub log : Log
  pub written : List (List ℕ)
  pub tried : List (List ℕ)
  pub watermark : ℕ

-- at any moment: behind the front the device was handed the frames of all that is written, which it has called safe, and a prefix of
-- the frames that were tried. No head calls a commit durable that isn't written
pub record HoldsNow (front : List ℕ) (base : ℕ) (seed : ℕ) (device : Device) (written tried : List (List ℕ)) : Type 0 where
  pub logged : List Logged
  pub more : List Logged
  pub numbered : AreLogged (base + 1) (logged ++ more)
  pub written_are : payloads_of logged ≡ written
  pub tried_are : payloads_of (logged ++ more) ≡ tried
  pub taken : ℕ
  pub appended : device.appended ≡ front ++ (journal_bytes seed logged ++ take taken (journal_bytes seed more))
  pub safe : length (front ++ journal_bytes seed logged) ≤ device.safe
  pub known : SyncedAtMost (base + length written) (logged ++ more)

-- between two calls: also, until the device fails, nothing was tried that isn't written. The watermark is at most what is written
pub record Holds (front : List ℕ) (base : ℕ) (seed : ℕ) (d : GroupLogState) : Type 0 where
  pub now : HoldsNow front base seed d.log.device d.written d.tried
  pub all : d.log.device.failures ≡ 0 → now.more ≡ []
  pub seed_is : d.log.seed ≡ seed
  pub watermark : d.watermark ≤ base + length d.written

-- a batch was refused: nothing has changed, or the device has failed during it
abbrev pub IsRefused : WriteFault → List ℕ → List (List ℕ) → GroupLogState → GroupLogState → Type 0
IsRefused Failed bytes to old new = new ≡ old
IsRefused Unsure bytes to old new =
    FailsOver bytes old.log.device new.log.device × (new ≡ record old { log = record { device = new.log.device; seed = old.log.seed }; tried = to })
