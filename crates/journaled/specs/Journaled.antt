-- A store with a journal, and what each call may be answered and leaves.
use Rattle.std.specs.Prelude.{◌≡◌, ℕ, ◌<◌, ◌^◌, Option, Some, None, Result, Ok, Err, MatchResult}
use Rattle.devices.specs.Appending.{MayFollow, MayTake, Stores, Taken}
use Rattle.devices.specs.declared.fault.StoreFault.TheVariants as store_fault
use Rattle.durable.specs.Durable.{Durable, IsLeftOut, IsLogged}
use Rattle.durable.specs.declared.fault.CommitFault.{CommitFault}
use Rattle.durable.specs.declared.fault.CommitFault.TheVariants as commit_fault
use Rattle.images.specs.Images.{Images, IsUnmarked, with_mark}
use Rattle.images.specs.declared.mark.ImageMark.{ImageMark}
use Rattle.inputs.specs.declared.call.Call.{Call}
use Rattle.inputs.specs.declared.call.Call.TheVariants as call
use Rattle.logging.specs.Log.{Log}
use Rattle.logging.specs.declared.fault.LogFault.{LogFault}
use Rattle.logging.specs.declared.fault.LogFault.TheVariants as log_fault
use Rattle.manager.specs.Checkpoint.{Checkpoints, answer_of_store, fault_of_store}
use Rattle.manager.specs.Managed.{Managed, IsDecided, IsManaged, IsOwn, newest_number, newest_stable, newest_version, rebuilt_of}
use Rattle.manager.specs.declared.fault.CheckpointFault.{CheckpointFault}
use Rattle.model.specs.declared.write.CommitReply.{CommitReply}
use Rattle.pdtcli.specs.Run.{Side, SideStep, checkpoint_reply}
use Rattle.pdtcli.specs.declared.refusal.Refusal.{Refusal}
use Rattle.pdtcli.specs.declared.refusal.Refusal.TheVariants as refusal
use Rattle.pdtcli.specs.declared.reply.Reply.{Reply}
use Rattle.pdtcli.specs.declared.reply.Reply.TheVariants.{Decided, JournalFailed, NoMemory, NotOpen, TooLong, Unsure}
use Rattle.txn.specs.Txn.{IsTransaction, Transaction}
use Rattle.journaled.specs.declared.fault.ImageFault.{ImageFault}
use Rattle.journaled.specs.declared.fault.ImageFault.TheVariants.{Unmarked, Unstored}

-- the durable manager, the marks of its images, and the generation of the next one
pub record Journaled : Type 0 where
  pub durable : Durable
  pub images : Images
  pub next : ℕ

-- over new journals, of the one table
abbrev pub journaled_over : Managed → Log → Log → ℕ → Journaled
journaled_over manager commits marks next =
    record {
      durable = record { manager = manager; log = commits; table = 0 };
      images = record { log = marks; next = 1 };
      next = next;
    }

-- with another manager, and nothing logged
abbrev pub with_manager : Managed → Journaled → Journaled
with_manager manager j = record j { durable = record j.durable { manager = manager } }

-- ---- a commit

abbrev pub commit_reply : Result CommitReply CommitFault → Reply
commit_reply (Ok reply) = Decided reply
commit_reply (Err commit_fault.NoMemory) = NoMemory
commit_reply (Err commit_fault.TooLong) = TooLong
commit_reply (Err commit_fault.Unsure) = Unsure
commit_reply (Err commit_fault.JournalFailed) = JournalFailed

-- an open transaction is decided, and its frame is safe where it is committed; or it stays open, and the manager is as it was
pub record OpenCommitStep (txn : Transaction) (old : Durable) (reply : Reply) (new : Durable) (own : Option Transaction) : Type 0 where
  pub managed : IsManaged old.manager
  pub lawful : IsTransaction txn
  pub mine : IsOwn old.manager txn
  pub answer : Result CommitReply CommitFault
  pub told : reply ≡ commit_reply answer
  pub done :
      MatchResult answer (λ r. IsDecided old.manager txn r new.manager × IsLogged old txn r new × (own ≡ None))
      (λ fault. IsLeftOut old txn fault new × (own ≡ Some txn))

abbrev pub CommitStep : Option Transaction → Durable → Reply → Durable → Option Transaction → Type 0
CommitStep None old reply new own = (reply ≡ NotOpen) × (new ≡ old) × (own ≡ None)
CommitStep (Some txn) old reply new own = OpenCommitStep txn old reply new own

-- ---- an image

abbrev pub image_reply : Result ℕ ImageFault → Reply
image_reply (Ok generation) = checkpoint_reply (Ok generation)
image_reply (Err (Unstored fault)) = checkpoint_reply (Err fault)
image_reply (Err (Unmarked log_fault.NoMemory)) = NoMemory
image_reply (Err (Unmarked log_fault.DeviceFailed)) = JournalFailed

abbrev pub image_refusal : ImageFault → Refusal
image_refusal (Unmarked log_fault.NoMemory) = refusal.Store store_fault.NoMemory
image_refusal (Unmarked log_fault.DeviceFailed) = refusal.JournalFailed
image_refusal (Unstored fault) = refusal.Store (fault_of_store fault)

-- the mark of an image of the newest table
abbrev pub mark_of : ℕ → Managed → ImageMark
mark_of generation manager = record { generation = generation; number = newest_number manager }

-- the mark of the next image
abbrev pub mark_due : Journaled → ImageMark
mark_due j = mark_of j.next j.durable.manager

-- the image was marked where the store may take one, and offered to the store
pub record IsOffered (old : Journaled) (had : Taken) (answer : Result ℕ CheckpointFault) (new : Journaled) (has : Taken) : Type 0 where
  pub marked : MayTake had → new.images ≡ with_mark (mark_due old) old.images
  pub unmarked : (MayTake had → ⊥) → new.images ≡ old.images
  pub offered : Checkpoints old.durable.manager had answer has
  pub stored :
      MayFollow old.durable.manager.schema had
      → Stores old.durable.manager.schema (newest_stable old.durable.manager) had (answer_of_store answer) has
  pub ready : MayFollow old.durable.manager.schema had → MayFollow old.durable.manager.schema has
  pub rebuilt :
      MatchResult answer (λ _. new.durable.manager ≡ rebuilt_of old.durable.manager)
      (λ _. new.durable.manager ≡ old.durable.manager)
  pub durable : new.durable ≡ record old.durable { manager = new.durable.manager }

-- the image wasn't marked, and the store is as it was
pub record IsHeldBack (old : Journaled) (had : Taken) (fault : LogFault) (new : Journaled) (has : Taken) : Type 0 where
  pub unmarked : IsUnmarked fault (mark_due old) old.images new.images
  pub durable : new.durable ≡ old.durable
  pub store : has ≡ had

abbrev pub IsImaged : Journaled → Taken → Result ℕ ImageFault → Journaled → Taken → Type 0
IsImaged old had (Ok generation) new has = IsOffered old had (Ok generation) new has
IsImaged old had (Err (Unstored fault)) new has = IsOffered old had (Err fault) new has
IsImaged old had (Err (Unmarked fault)) new has = IsHeldBack old had fault new has

-- ---- a call

-- the journaled store, the client's transaction, where it has one open, and what the columns have
pub record Held : Type 0 where
  pub journaled : Journaled
  pub own : Option Transaction
  pub store : Taken

abbrev pub side_of : Held → Side
side_of h = record { manager = h.journaled.durable.manager; own = h.own }

-- a call that a manager answers alone: nothing is logged and nothing is stored, and the newest version stays
pub record IsQuiet (client : ℕ) (asked : Call) (old : Held) (reply : Reply) (new : Held) : Type 0 where
  pub step : SideStep client asked (side_of old) reply (side_of new)
  pub newest : newest_version new.journaled.durable.manager ≡ newest_version old.journaled.durable.manager
  pub journaled : new.journaled ≡ with_manager new.journaled.durable.manager old.journaled
  pub store : new.store ≡ old.store

-- a commit changes the durable manager alone
pub record IsCommitted (old : Held) (reply : Reply) (new : Held) : Type 0 where
  pub step : CommitStep old.own old.journaled.durable reply new.journaled.durable new.own
  pub journaled : new.journaled ≡ record old.journaled { durable = new.journaled.durable }
  pub store : new.store ≡ old.store

pub record IsCheckpointed (old : Held) (reply : Reply) (new : Held) : Type 0 where
  pub answer : Result ℕ ImageFault
  pub told : reply ≡ image_reply answer
  pub imaged : IsImaged old.journaled old.store answer new.journaled new.store
  pub own : new.own ≡ old.own

-- the client's call may be answered so, and leave this
abbrev pub IsServed : ℕ → Call → Held → Reply → Held → Type 0
IsServed client call.Commit old reply new = IsCommitted old reply new
IsServed client call.Checkpoint old reply new = IsCheckpointed old reply new
IsServed client call.Begin old reply new = IsQuiet client call.Begin old reply new
IsServed client (call.Write write) old reply new = IsQuiet client (call.Write write) old reply new
IsServed client (call.Read read) old reply new = IsQuiet client (call.Read read) old reply new
IsServed client call.Abort old reply new = IsQuiet client call.Abort old reply new
IsServed client call.Fold old reply new = IsQuiet client call.Fold old reply new
IsServed client call.Cut old reply new = IsQuiet client call.Cut old reply new
