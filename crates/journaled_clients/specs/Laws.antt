-- What a crash leaves of a run of clients on threads.
use Rattle.std.specs.Prelude.{◌≡◌, ◌<◌, ◌^◌, ℕ, ◌+◌, ◌-◌, List, ◌++◌, length, map}
use Rattle.codec.specs.Reading.{decoded}
use Rattle.inputs.specs.Typed.{Typed}
use Rattle.journal.specs.Frame.{Logged}
use Rattle.journal.specs.Laws.{IsSeed}
use Rattle.logging.specs.Device.{Device}
use Rattle.logging.specs.Left.{IsNoChance, MayLeave}
use Rattle.manager.specs.Managed.{Managed}
use Rattle.publishing.specs.Lists.{number_in}
use Rattle.group_commit.specs.Batch.{SyncedAtMost}
use Rattle.replay.specs.Recovered.{IsCrashed}
use Rattle.replay.specs.Replayed.{AreSaid}
use Rattle.durable_sessions.specs.Payloads.{effects_in}
use Rattle.pdtcli.specs.declared.reply.ReplyLine.{ReplyLine}
use Rattle.journaled_clients.specs.Run.{IsDurableRunOfClients}
use Rattle.journaled_clients.specs.Transcripts.{AreReported}

-- Whatever a crash leaves of the journal after a run: behind the front it leaves bytes from which recovery makes the table after a prefix of
-- the commits, all that were written out as committed among them
abbrev pub ACrashLeavesWhatIsWrittenOut : Type 0
ACrashLeavesWhatIsWrittenOut = (o m : Managed) (table : ℕ) (script : Typed) (front : List ℕ) (seed : ℕ) (lines : List ReplyLine) (counts : List ℕ)
    (device : Device) (bytes : List ℕ)
    → (ran : IsDurableRunOfClients o table script front seed lines m counts device)
    → IsSeed seed → number_in o ran.closed.ended.tried < 2 ^ 63
    → (left : MayLeave device.appended device.safe bytes)
    → (durable : ℕ) × AreReported o durable lines
    × (rest : List ℕ) × (bytes ≡ front ++ rest) × (logged : List Logged)
    × (IsNoChance seed (o.start.base + 1) logged (left.size - length front) left.other rest
    → (crash : IsCrashed (decoded o.schema table) o.schema seed o.start.base o.start.table (effects_in o ran.closed.ended.tried)
    (durable - o.start.base) rest)
    × AreSaid o.schema table o.start.table (effects_in o ran.closed.ended.tried) (map (λ l. l.payload) crash.logged))
    × SyncedAtMost durable logged
