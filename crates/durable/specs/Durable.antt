-- What a durable manager stands for, and what a commit does to it.
use Rattle.std.specs.Prelude.{◌≡◌, ℕ, suc, ◌-◌, ◌<◌, ◌≤◌, ◌^◌, List, [], ◌∷◌, length, Ok}
use Rattle.model.specs.declared.entry.Entry.{Entry}
use Rattle.model.specs.declared.write.CommitReply.{CommitReply}
use Rattle.model.specs.declared.write.CommitReply.TheVariants.{Committed, Conflict, TooOld, Full}
use Rattle.model.specs.Entries.{canonical_entries}
use Rattle.txn.specs.Txn.{Transaction, effects_of}
use Rattle.manager.specs.Managed.{Managed, newest_number, newest_table, reply_due}
use Rattle.codec.specs.Payload.{part_bytes}
use Rattle.codec.specs.Reading.{entries_in}
use Rattle.journal.specs.Frame.{Logged, frame_bytes}
use Rattle.logging.specs.Log.{Log, FailsOver, with_safe}
use Rattle.codec.specs.declared.fault.SpellFault.{SpellFault}
use Rattle.codec.specs.declared.fault.SpellFault.TheVariants as spell_fault
use Rattle.durable.specs.declared.fault.CommitFault.{CommitFault}
use Rattle.durable.specs.declared.fault.CommitFault.TheVariants.{NoMemory, TooLong, Unsure, JournalFailed}

-- the manager, the log on the device, and the table's number in the payloads
pub record Durable : Type 0 where
  pub manager : Managed
  pub log : Log
  pub table : ℕ

abbrev pub over : Managed → Log → ℕ → Durable
over m log table = record { manager = m; log = log; table = table }

-- the payload of a commit: a part of the table where the commit changes it
abbrev pub payload_for : ℕ → List Entry → List ℕ
payload_for table [] = []
payload_for table (e ∷ entries) = part_bytes table (e ∷ entries)

-- what is logged of commit number n: all commits before it are safe
abbrev pub logged_for : ℕ → ℕ → List Entry → Logged
logged_for table n entries = record { number = n; synced = n - 1; payload = payload_for table entries }

-- what is logged of a transaction's commit
abbrev pub logged_of : Durable → Transaction → ℕ → Logged
logged_of d txn n = logged_for d.table n (canonical_entries (newest_table d.manager) (effects_of txn))

-- what a commit is answered where its payload can't be spelt
abbrev pub fault_of_spelling : SpellFault → CommitFault
fault_of_spelling spell_fault.TooLong = TooLong
fault_of_spelling spell_fault.NoMemory = NoMemory

-- a frame wasn't logged: nothing has changed, or the device has failed over it
abbrev pub IsUnlogged : CommitFault → List ℕ → Log → Log → Type 0
IsUnlogged NoMemory frame old new = new ≡ old
IsUnlogged TooLong frame old new = new ≡ old
IsUnlogged Unsure frame old new = FailsOver frame old.device new.device × (new.seed ≡ old.seed)
IsUnlogged JournalFailed frame old new = (new ≡ old) × (0 < old.device.failures)

-- the log after a reply to a transaction: with its frame where it is committed
abbrev pub log_with : Durable → Transaction → CommitReply → Log
log_with d txn (Committed n) = with_safe (frame_bytes d.log.seed (logged_of d txn n)) d.log
log_with d txn (Conflict n) = d.log
log_with d txn (TooOld n) = d.log
log_with d txn (Full n) = d.log

-- the payload of a commit reads as the entries of its effects
abbrev pub IsReadAgain : Durable → Transaction → CommitReply → Type 0
IsReadAgain d txn (Committed n) =
    (length (logged_of d txn n).payload < 2 ^ 32)
    × (entries_in d.manager.schema d.table (logged_of d txn n).payload
    ≡ Ok (canonical_entries (newest_table d.manager) (effects_of txn)))
IsReadAgain d txn (Conflict n) = Unit {0}
IsReadAgain d txn (TooOld n) = Unit {0}
IsReadAgain d txn (Full n) = Unit {0}

-- a commit is logged by its reply, and what was logged of it reads as its entries
pub record IsLogged (old : Durable) (txn : Transaction) (reply : CommitReply) (new : Durable) : Type 0 where
  pub log : new.log ≡ log_with old txn reply
  pub table : new.table ≡ old.table
  pub again : IsReadAgain old txn reply

-- a transaction's commit is granted, and what is logged of it reads as the entries of its effects
abbrev pub IsReadable : Durable → Transaction → Type 0
IsReadable d txn =
    (Committed (suc (newest_number d.manager)) ≡ reply_due d.manager txn) × IsReadAgain d txn (Committed (suc (newest_number d.manager)))

-- a payload is too long for a frame
abbrev pub IsLong : Logged → Type 0
IsLong l = 2 ^ 32 ≤ length l.payload

-- a commit isn't answered: the manager is as it was, and its frame wasn't logged. Where the device failed over it, the frame is that
-- of a commit
pub record IsLeftOut (old : Durable) (txn : Transaction) (fault : CommitFault) (new : Durable) : Type 0 where
  pub manager : new.manager ≡ old.manager
  pub table : new.table ≡ old.table
  pub log : IsUnlogged fault (frame_bytes old.log.seed (logged_of old txn (suc (newest_number old.manager)))) old.log new.log
  pub frame : fault ≡ Unsure → IsReadable old txn
  pub long : fault ≡ TooLong → IsLong (logged_of old txn (suc (newest_number old.manager)))
