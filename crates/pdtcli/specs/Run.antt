-- A serial run: what each call may be answered, and what it leaves.
use Rattle.std.specs.Prelude.{◌≡◌, ◌⊎◌, ◌≤◌, ◌^◌, ℕ, ◌+◌, ◌==◌, Bool, true, false, ◌&&◌, cond}
use Rattle.std.specs.Prelude.{Option, Some, None, IsNone, IsSome, Result, Ok, Err, MatchResult, List, [], ◌∷◌, filter, length}
use Rattle.std.specs.Prelude.{get_or, set, slice_get, slice_set}
use Rattle.values.specs.Shape.{Columns, row_fault, key_fault, cell_fault, or_fault}
use Rattle.values.specs.declared.fault.ShapeFault.{ShapeFault}
use Rattle.values.specs.declared.fault.ShapeFault.TheVariants as shape
use Rattle.model.specs.declared.write.Write.{Write}
use Rattle.model.specs.declared.write.Write.TheVariants as asked
use Rattle.inputs.specs.declared.call.Call.{Call}
use Rattle.inputs.specs.declared.call.Call.TheVariants as call
use Rattle.inputs.specs.declared.call.Read.{Read}
use Rattle.inputs.specs.declared.call.Read.TheVariants.{Get, At, Rank, Len, Scan}
use Rattle.inputs.specs.declared.call.ClientCall.{ClientCall}
use Rattle.pdtcli.specs.declared.reply.Reply.{Reply}
use Rattle.pdtcli.specs.declared.reply.Reply.TheVariants.{Begun, AlreadyOpen, NotOpen, Wrote, KeyColumn, TextTooLong, Decided, Aborted}
use Rattle.pdtcli.specs.declared.reply.Reply.TheVariants.{Folded, Stored, DeviceFailed, StoreFailed, GenerationsSpent, Cut, NoMemory}
use Rattle.pdtcli.specs.declared.reply.ReplyLine.{ReplyLine}
use Rattle.inputs.specs.declared.verb.Verb.{Verb}
use Rattle.inputs.specs.declared.verb.Verb.TheVariants as verb
use Rattle.txn.specs.Txn.{Transaction, with_write, answer_to}
use Rattle.pdtcli.specs.Reads.{ReadStep}
use Rattle.devices.specs.Appending.{MayFollow, Stores, Taken}
use Rattle.manager.specs.Checkpoint.{Checkpoints, answer_of_store}
use Rattle.manager.specs.Managed.{Managed, HasFolded, IsDecided, begun_at, is_too_old, newest_stable, rebuilt_of, cut_of}
use Rattle.manager.specs.declared.fault.CheckpointFault.{CheckpointFault}
use Rattle.manager.specs.declared.fault.CheckpointFault.TheVariants as checkpoint

-- ---- one client's side

-- the manager, and the client's transaction, where it has one open
pub record Side : Type 0 where
  pub manager : Managed
  pub own : Option Transaction

-- the first fault of a write by its shape
abbrev pub write_fault : Columns → Write → Option ShapeFault
write_fault schema (asked.Insert row) = row_fault schema row
write_fault schema (asked.Delete key) = key_fault schema key
write_fault schema (asked.Set key col value) = or_fault (key_fault schema key) (cell_fault schema col value)

-- a begin
abbrev pub BeginStep : ℕ → Side → Reply → Side → Type 0
BeginStep client old Begun new = IsNone old.own × (new ≡ record old { own = Some (begun_at old.manager client) })
BeginStep client old AlreadyOpen new = IsSome old.own × (new ≡ old)
BeginStep client old NoMemory new = IsNone old.own × (new ≡ old)
BeginStep client old reply new = ⊥

-- a write in an open transaction: a fault of its shape is told before memory is wanted
abbrev pub OpenWriteStep : Transaction → Write → Side → Reply → Side → Type 0
OpenWriteStep txn write old (Wrote reply) new =
    IsNone (write_fault txn.schema write) × (reply ≡ answer_to txn write) × (new ≡ record old { own = Some (with_write txn write reply) })
OpenWriteStep txn write old KeyColumn new = (write_fault txn.schema write ≡ Some shape.KeyColumn) × (new ≡ old)
OpenWriteStep txn write old (TextTooLong cell) new = (write_fault txn.schema write ≡ Some (shape.TextTooLong cell)) × (new ≡ old)
OpenWriteStep txn write old NoMemory new = IsNone (write_fault txn.schema write) × (new ≡ old)
OpenWriteStep txn write old reply new = ⊥

abbrev pub WriteStep : Option Transaction → Write → Side → Reply → Side → Type 0
WriteStep None write old reply new = (reply ≡ NotOpen) × (new ≡ old)
WriteStep (Some txn) write old reply new = OpenWriteStep txn write old reply new

-- a commit of an open transaction
abbrev pub OpenCommitStep : Transaction → Side → Reply → Side → Type 0
OpenCommitStep txn old (Decided reply) new = IsDecided old.manager txn reply new.manager × IsNone new.own
OpenCommitStep txn old NoMemory new = (new ≡ old) × (is_too_old old.manager txn ≡ true → 2 ^ 62 ≤ old.manager.made)
OpenCommitStep txn old reply new = ⊥

abbrev pub CommitStep : Option Transaction → Side → Reply → Side → Type 0
CommitStep None old reply new = (reply ≡ NotOpen) × (new ≡ old)
CommitStep (Some txn) old reply new = OpenCommitStep txn old reply new

abbrev pub AbortStep : Option Transaction → Side → Reply → Side → Type 0
AbortStep None old reply new = (reply ≡ NotOpen) × (new ≡ old)
AbortStep (Some txn) old reply new = (reply ≡ Aborted) × (new ≡ record old { own = None })

-- a fold changes no table and no history: the Write-PDT goes into the Read-PDT
abbrev pub FoldStep : Side → Reply → Side → Type 0
FoldStep old reply new =
    (new.own ≡ old.own) × (((reply ≡ Folded) × HasFolded old.manager new.manager) ⊎ ((reply ≡ NoMemory) × (new.manager ≡ old.manager)))

-- the reply that tells how a checkpoint was answered
abbrev pub checkpoint_reply : Result ℕ CheckpointFault → Reply
checkpoint_reply (Ok generation) = Stored generation
checkpoint_reply (Err checkpoint.StoreFailed) = StoreFailed
checkpoint_reply (Err checkpoint.GenerationsSpent) = GenerationsSpent
checkpoint_reply (Err checkpoint.NoMemory) = NoMemory
checkpoint_reply (Err (checkpoint.DeviceFailed i)) = DeviceFailed i

-- nor does a checkpoint: where it was stored, the newest rows are the stable table, under no entries
abbrev pub RebuildStep : Side → Reply → Side → Type 0
RebuildStep old reply new =
    (new.own ≡ old.own)
    × ((answer : Result ℕ CheckpointFault) × (reply ≡ checkpoint_reply answer)
    × MatchResult answer (λ _. new.manager ≡ rebuilt_of old.manager) (λ _. new.manager ≡ old.manager))

-- a cut hands out the history, and tells how many records it has
abbrev pub CutStep : Side → Reply → Side → Type 0
CutStep old reply new = (reply ≡ Cut (length old.manager.history)) × (new ≡ record old { manager = cut_of old.manager })

-- the client's call may be answered so, and leave this
abbrev pub SideStep : ℕ → Call → Side → Reply → Side → Type 0
SideStep client call.Begin old reply new = BeginStep client old reply new
SideStep client (call.Write write) old reply new = WriteStep old.own write old reply new
SideStep client (call.Read read) old reply new = ReadStep old.own read reply × (new ≡ old)
SideStep client call.Commit old reply new = CommitStep old.own old reply new
SideStep client call.Abort old reply new = AbortStep old.own old reply new
SideStep client call.Fold old reply new = FoldStep old reply new
SideStep client call.Checkpoint old reply new = RebuildStep old reply new
SideStep client call.Cut old reply new = CutStep old reply new

-- ---- the store

-- the store is offered the newest table, and the reply tells what it answers. Where an image may follow what its devices
-- took, they store that table under its generation then; after a failure what they stored before, or that
pub record CheckpointStep (m : Managed) (old : Taken) (reply : Reply) (new : Taken) : Type 0 where
  pub answer : Result ℕ CheckpointFault
  pub told : reply ≡ checkpoint_reply answer
  pub offered : Checkpoints m old answer new
  pub stored : MayFollow m.schema old → Stores m.schema (newest_stable m) old (answer_of_store answer) new
  pub ready : MayFollow m.schema old → MayFollow m.schema new

-- a checkpoint alone writes to the store
abbrev pub StoreStep : Call → Managed → Taken → Reply → Taken → Type 0
StoreStep call.Begin m old reply new = new ≡ old
StoreStep (call.Write write) m old reply new = new ≡ old
StoreStep (call.Read read) m old reply new = new ≡ old
StoreStep call.Commit m old reply new = new ≡ old
StoreStep call.Abort m old reply new = new ≡ old
StoreStep call.Fold m old reply new = new ≡ old
StoreStep call.Checkpoint m old reply new = CheckpointStep m old reply new
StoreStep call.Cut m old reply new = new ≡ old

-- ---- all clients

-- the manager, each client's transaction, and the store
pub record State : Type 0 where
  pub manager : Managed
  pub transactions : List (Option Transaction)
  pub store : Taken

abbrev pub joined : Option (Option Transaction) → Option Transaction
joined None = None
joined (Some own) = own

-- a client's side of the state
abbrev pub side_of : State → ℕ → Side
side_of state client = record { manager = state.manager; own = joined (slice_get state.transactions client) }

-- the state with another side of the client, and another store
abbrev pub with_side : State → ℕ → Side → Taken → State
with_side state client side store =
    record { manager = side.manager; transactions = slice_set state.transactions client side.own; store = store }

-- the verb of a call
abbrev pub verb_of_write : Write → Verb
verb_of_write (asked.Insert row) = verb.Insert
verb_of_write (asked.Delete key) = verb.Delete
verb_of_write (asked.Set key col value) = verb.Set

abbrev pub verb_of_read : Read → Verb
verb_of_read (Get key) = verb.Get
verb_of_read (At rid) = verb.At
verb_of_read (Rank key) = verb.Rank
verb_of_read Len = verb.Len
verb_of_read (Scan from to) = verb.Scan

abbrev pub verb_of_call : Call → Verb
verb_of_call call.Begin = verb.Begin
verb_of_call (call.Write write) = verb_of_write write
verb_of_call (call.Read read) = verb_of_read read
verb_of_call call.Commit = verb.Commit
verb_of_call call.Abort = verb.Abort
verb_of_call call.Fold = verb.Fold
verb_of_call call.Checkpoint = verb.Checkpoint
verb_of_call call.Cut = verb.Cut

-- the line of a call's reply
abbrev pub line_of : ClientCall → Reply → ReplyLine
line_of asked reply = record { client = asked.client; verb = verb_of_call asked.call; reply = reply }

-- the call's client takes a step, which leaves the others, the store takes its own, and the line tells them
pub record Step (old : State) (asked : ClientCall) (line : ReplyLine) (new : State) : Type 0 where
  pub reply : Reply
  pub side : Side
  pub store : Taken
  pub steps : SideStep asked.client asked.call (side_of old asked.client) reply side
  pub writes : StoreStep asked.call old.manager old.store reply store
  pub told : line ≡ line_of asked reply
  pub left : new ≡ with_side old asked.client side store

-- a line for each call, in order
abbrev pub IsRun : State → List ClientCall → List ReplyLine → State → Type 0
IsRun old [] [] new = new ≡ old
IsRun old (asked ∷ calls) (line ∷ lines) new = (mid : State) × Step old asked line mid × IsRun mid calls lines new
IsRun old [] (line ∷ lines) new = ⊥
IsRun old (asked ∷ calls) [] new = ⊥

-- ---- counts

abbrev pub is_decided : Reply → Bool
is_decided (Decided reply) = true
is_decided reply = false

-- the counts of all clients after a reply to one of them
abbrev pub counts_after : ℕ → Reply → List ℕ → List ℕ
counts_after client reply counts = cond (is_decided reply) (set counts client (get_or counts client 0 + 1)) counts

-- between two states of the manager so many records were handed out: those that it had and those that it made, but for those
-- that it still has
abbrev pub AreHanded : Managed → Managed → ℕ → Type 0
AreHanded old new count = count + length new.history + old.made ≡ length old.history + new.made

-- how many of the client's commits were decided
abbrev pub decided_count : List ReplyLine → ℕ → ℕ
decided_count lines client = length (filter (λ line. (line.client == client) && is_decided line.reply) lines)
