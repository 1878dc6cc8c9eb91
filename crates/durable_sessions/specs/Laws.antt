-- What a crash leaves of the commits of all sessions.
use Rattle.std.specs.Prelude.{◌≡◌, ◌<◌, ◌^◌, ℕ, ◌+◌, ◌-◌, List, ◌++◌, length, map}
use Rattle.codec.specs.Reading.{decoded}
use Rattle.journal.specs.Frame.{Logged, journal_bytes}
use Rattle.journal.specs.Laws.{IsSeed}
use Rattle.logging.specs.Device.{Device}
use Rattle.logging.specs.Left.{IsNoChance, MayLeave}
use Rattle.model.specs.Effects.{Effects}
use Rattle.model.specs.History.{table_with_all}
use Rattle.model.specs.Laws.{AreCommits}
use Rattle.model.specs.Table.{Table}
use Rattle.manager.specs.Managed.{Managed}
use Rattle.publishing.specs.declared.item.Item.{Item}
use Rattle.publishing.specs.Lists.{number_in}
use Rattle.group_commit.specs.GroupLog.{GroupLogState, Holds, HoldsNow}
use Rattle.group_commit.specs.Laws.{IsMidWrite}
use Rattle.group_commit.specs.Reopened.{AreOlder}
use Rattle.group_commit.specs.Batch.{IsBatch, SyncedAtMost}
use Rattle.replay.specs.Recovered.{IsCrashed}
use Rattle.replay.specs.Replayed.{AreSaid}
use Rattle.durable_sessions.specs.Payloads.{IsLoggable, effects_in, payloads_in}

-- at any moment the device has the frames of the commits of a list, written and durable, and behind them some bytes of the frames of a
-- longer one, tried
abbrev pub JournalHolds : Managed → ℕ → List ℕ → ℕ → Device → List Item → List Item → Type 0
JournalHolds o table front seed device written tried =
    HoldsNow front o.start.base seed device (payloads_in o table written) (payloads_in o table tried)

-- in the middle of a batch, whatever part of it the device has taken
abbrev pub ABatchAtAnyMoment : Type 0
ABatchAtAnyMoment = (o : Managed) (table : ℕ) (front : List ℕ) (seed : ℕ) (d : GroupLogState) (written to : List Item) (bytes : List ℕ) (now : Device)
    → d.written ≡ payloads_in o table written
    → Holds front o.start.base seed d → d.log.device.failures ≡ 0
    → IsBatch seed o.start.base (payloads_in o table written) (payloads_in o table to) bytes
    → IsMidWrite d.log.device bytes now
    → JournalHolds o table front seed now written to

-- Wherever a crash falls: behind the front it leaves bytes from which recovery makes the table after a prefix of the commits, the
-- durable ones among them; and no frame's head notes more as durable
abbrev pub ACrashLeavesWhatIsAcknowledged : Type 0
ACrashLeavesWhatIsAcknowledged = (o : Managed) (table : ℕ) (front : List ℕ) (seed : ℕ) (device : Device) (written tried : List Item) (bytes : List ℕ)
    → JournalHolds o table front seed device written tried → IsLoggable o table tried
    → IsSeed seed → number_in o tried < 2 ^ 63
    → (left : MayLeave device.appended device.safe bytes)
    → (rest : List ℕ) × (bytes ≡ front ++ rest) × (logged : List Logged)
    × (IsNoChance seed (o.start.base + 1) logged (left.size - length front) left.other rest
    → (crash : IsCrashed (decoded o.schema table) o.schema seed o.start.base o.start.table (effects_in o tried)
    (number_in o written - o.start.base) rest)
    × AreSaid o.schema table o.start.table (effects_in o tried) (map (λ l. l.payload) crash.logged))
    × SyncedAtMost (number_in o written) logged

-- the journal of an opening begins with a front and the frames of older commits, which led to the opening's table
pub record IsReopened (o : Managed) (table : ℕ) (front : List ℕ) (seed base : ℕ) (t : Table) (commits : List Effects) (older : List Logged)
    (whole : List ℕ) : Type 0 where
  pub front_is : whole ≡ front ++ journal_bytes seed older
  pub base_is : o.start.base ≡ base + length older
  pub table_is : o.start.table ≡ table_with_all t commits
  pub fit : AreCommits o.schema t commits
  pub said : AreSaid o.schema table t commits (map (λ l. l.payload) older)
  pub are_older : AreOlder base older

-- A journal that is opened again: wherever a crash falls, recovery of the whole file makes the table after a prefix of the commits of
-- both openings, the durable ones among them
abbrev pub ACrashOfAReopenedJournal : Type 0
ACrashOfAReopenedJournal = (o : Managed) (table : ℕ) (front : List ℕ) (seed base : ℕ) (t : Table) (commits : List Effects)
    (older : List Logged) (whole : List ℕ) (device : Device) (written tried : List Item) (bytes : List ℕ)
    → IsReopened o table front seed base t commits older whole
    → JournalHolds o table whole seed device written tried → IsLoggable o table tried
    → IsSeed seed → number_in o tried < 2 ^ 63
    → (left : MayLeave device.appended device.safe bytes)
    → (rest : List ℕ) × (bytes ≡ front ++ rest) × (logged : List Logged)
    × (IsNoChance seed (base + 1) logged (left.size - length front) left.other rest
    → (crash : IsCrashed (decoded o.schema table) o.schema seed base t (commits ++ effects_in o tried) (number_in o written - base) rest)
    × AreSaid o.schema table t (commits ++ effects_in o tried) (map (λ l. l.payload) crash.logged))
    × SyncedAtMost (number_in o written) logged
