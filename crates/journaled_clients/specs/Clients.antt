-- What each call over a durable session may be answered, and the calls of one client.
use Rattle.std.specs.Prelude.{◌≡◌, ◌⊎◌, ℕ, ◌+◌, ◌<◌, Bool, true, false, cond, Some, None, IsNone, IsSome, Result, List, [], ◌∷◌}
use mathlib.Core.List.{IsPrefix}
use Rattle.inputs.specs.declared.call.Call.{Call}
use Rattle.inputs.specs.declared.call.Call.TheVariants as call
use Rattle.inputs.specs.declared.call.ClientCall.{ClientCall}
use Rattle.manager.specs.Managed.{Managed}
use Rattle.manager.specs.declared.fault.CheckpointFault.{CheckpointFault}
use Rattle.publishing.specs.Lists.{number_in}
use Rattle.shared.specs.Sessions.{Seat, WasReplied, begun_in}
use Rattle.durable_sessions.specs.Queues.{IsDurable, WasCommitted}
use Rattle.pdtcli.specs.Clients.{SeatAnswers, calls_of}
use Rattle.pdtcli.specs.Run.{checkpoint_reply, line_of}
use Rattle.pdtcli.specs.declared.reply.Reply.{Reply}
use Rattle.pdtcli.specs.declared.reply.Reply.TheVariants.{Begun, AlreadyOpen, NotOpen, Decided, Ended, JournalFailed, NoMemory, Stranger, TooLong, Unsure}
use Rattle.pdtcli.specs.declared.reply.ReplyLine.{ReplyLine}

-- ---- one call

-- a begin: over the version of all that the session has then seen; where the device failed over it, no transaction is open
abbrev pub DurableBegin : Managed → Seat → Reply → Seat → Type 0
DurableBegin o old Begun new =
    IsNone old.txn × IsPrefix old.seen new.seen
    × (new ≡ record old { seen = new.seen; txn = Some (begun_in o new.seen old.client) })
DurableBegin o old AlreadyOpen new = IsSome old.txn × (new ≡ old)
DurableBegin o old Ended new = new ≡ old
DurableBegin o old NoMemory new = new ≡ old
DurableBegin o old JournalFailed new = (old.txn ≡ None) × (new ≡ record old { seen = new.seen })
DurableBegin o old reply new = ⊥

-- a commit: the reply is the one that is due where it stands in the published list. Unsure is a commit that was decided as committed, over
-- which the device failed. A stranger has seen more commits than were held at the opening
abbrev pub DurableCommit : Managed → Seat → Reply → Seat → Type 0
DurableCommit o old (Decided reply) new = WasReplied o old new reply × (new.txn ≡ None)
DurableCommit o old Unsure new = WasCommitted o old new × (new.txn ≡ None)
DurableCommit o old NotOpen new = (old.txn ≡ None) × (new ≡ old)
DurableCommit o old Stranger new = (number_in o [] < number_in o old.seen) × (new ≡ old)
DurableCommit o old NoMemory new = new ≡ old
DurableCommit o old TooLong new = new ≡ old
DurableCommit o old JournalFailed new = new ≡ old
DurableCommit o old reply new = ⊥

-- a checkpoint: the store's answer, or the device failed before the store was asked
abbrev pub IsImageReply : Reply → Type 0
IsImageReply reply = ((answer : Result ℕ CheckpointFault) × (reply ≡ checkpoint_reply answer)) ⊎ (reply ≡ JournalFailed)

-- the session's call may be answered so, and leave this
abbrev pub DurableAnswers : Managed → Call → Seat → Reply → Seat → Type 0
DurableAnswers o call.Begin old reply new = DurableBegin o old reply new
DurableAnswers o (call.Write write) old reply new = SeatAnswers o (call.Write write) old reply new
DurableAnswers o (call.Read read) old reply new = SeatAnswers o (call.Read read) old reply new
DurableAnswers o call.Commit old reply new = DurableCommit o old reply new
DurableAnswers o call.Abort old reply new = SeatAnswers o call.Abort old reply new
DurableAnswers o call.Fold old reply new = SeatAnswers o call.Fold old reply new
DurableAnswers o call.Checkpoint old reply new = IsImageReply reply × (new ≡ old)
DurableAnswers o call.Cut old reply new = SeatAnswers o call.Cut old reply new

-- whether a commit was decided by a reply
abbrev pub is_counted : Reply → Bool
is_counted (Decided reply) = true
is_counted Unsure = true
is_counted reply = false

-- how many commits a call decides
abbrev pub counted_by : Call → Reply → ℕ
counted_by call.Commit reply = cond (is_counted reply) 1 0
counted_by asked reply = 0

-- and the session counts each commit that is decided, and nothing else
pub record DurableStep (o : Managed) (asked : Call) (old : Seat) (reply : Reply) (new : Seat) : Type 0 where
  pub answers : DurableAnswers o asked old reply new
  pub counted : new.count ≡ old.count + counted_by asked reply
  pub client : new.client ≡ old.client

-- a commit that is replied Committed has a number that isn't above the watermark
abbrev pub IsDurableReply : Reply → ℕ → Type 0
IsDurableReply (Decided reply) safe = IsDurable reply safe
IsDurableReply other safe = Unit {0}

-- ---- one client

-- a call's line is that of such a step
pub record DurableServed (o : Managed) (old : Seat) (asked : ClientCall) (line : ReplyLine) (new : Seat) : Type 0 where
  pub reply : Reply
  pub step : DurableStep o asked.call old reply new
  pub reported : line ≡ line_of asked reply

-- a line for each call, in order
abbrev pub IsDurableRun : Managed → Seat → List ClientCall → List ReplyLine → Seat → Type 0
IsDurableRun o old [] [] new = new ≡ old
IsDurableRun o old (asked ∷ calls) (line ∷ lines) new =
    (mid : Seat) × DurableServed o old asked line mid × IsDurableRun o mid calls lines new
IsDurableRun o old [] (line ∷ lines) new = ⊥
IsDurableRun o old (asked ∷ calls) [] new = ⊥

-- all calls of a session's client among these were made and answered, in their order
abbrev pub HasMadeDurably : Managed → Seat → List ClientCall → List ReplyLine → Seat → Type 0
HasMadeDurably o old calls lines new = IsDurableRun o old (calls_of old.client calls) lines new
