-- A run over a store with a journal: what each call may be answered, and what it leaves.
use Rattle.std.specs.Prelude.{◌≡◌, ℕ, Option, None, Result, Ok, Err, List, [], ◌∷◌, ◌++◌, length, replicate, slice_get, slice_set}
use Rattle.devices.specs.Appending.{Taken}
use Rattle.inputs.specs.Typed.{Typed}
use Rattle.inputs.specs.declared.call.ClientCall.{ClientCall}
use Rattle.manager.specs.Managed.{Managed, newest_table}
use Rattle.model.specs.Table.{rows_of}
use Rattle.pdtcli.specs.Output.{image_text, lines_text}
use Rattle.pdtcli.specs.Run.{joined, line_of}
use Rattle.pdtcli.specs.declared.refusal.Refusal.{Refusal}
use Rattle.pdtcli.specs.declared.refusal.Refusal.TheVariants as refusal
use Rattle.pdtcli.specs.declared.reply.Reply.{Reply}
use Rattle.pdtcli.specs.declared.reply.ReplyLine.{ReplyLine}
use Rattle.txn.specs.Txn.{Transaction}
use Rattle.journaled.specs.Journaled.{Held, IsImaged, IsServed, Journaled, image_refusal}
use Rattle.journaled.specs.declared.fault.ImageFault.{ImageFault}

-- the journaled store, each client's transaction, and what the columns have
pub record State : Type 0 where
  pub journaled : Journaled
  pub transactions : List (Option Transaction)
  pub store : Taken

-- what a client holds of it
abbrev pub held_of : State → ℕ → Held
held_of state client =
    record { journaled = state.journaled; own = joined (slice_get state.transactions client); store = state.store }

abbrev pub with_held : State → ℕ → Held → State
with_held state client held =
    record { journaled = held.journaled; transactions = slice_set state.transactions client held.own; store = held.store }

-- the call's client is served, which leaves the others, and the line tells the reply
pub record Step (old : State) (asked : ClientCall) (line : ReplyLine) (new : State) : Type 0 where
  pub reply : Reply
  pub held : Held
  pub served : IsServed asked.client asked.call (held_of old asked.client) reply held
  pub told : line ≡ line_of asked reply
  pub left : new ≡ with_held old asked.client held

-- a line for each call, in order
abbrev pub IsRun : State → List ClientCall → List ReplyLine → State → Type 0
IsRun old [] [] new = new ≡ old
IsRun old (asked ∷ calls) (line ∷ lines) new = (mid : State) × Step old asked line mid × IsRun mid calls lines new
IsRun old [] (line ∷ lines) new = ⊥
IsRun old (asked ∷ calls) [] new = ⊥

-- the table was stored as an image
pub record IsOpened (opening : Journaled) (had : Taken) (opened : Journaled) (has : Taken) : Type 0 where
  pub generation : ℕ
  pub imaged : IsImaged opening had (Ok generation) opened has

-- the table was stored, and then the script's calls were made, with no transaction open at first
pub record IsRunFrom (opening : Journaled) (script : Typed) (had : Taken) (lines : List ReplyLine) (last : Journaled) (has : Taken) :
    Type 0 where
  pub opened : Journaled
  pub taken : Taken
  pub imaged : IsOpened opening had opened taken
  pub transactions : List (Option Transaction)
  pub run :
      IsRun (record { journaled = opened; transactions = replicate (length script.clients) None; store = taken }) script.calls lines
      (record { journaled = last; transactions = transactions; store = has })

-- what is written of a run: its reply lines, a line feed, and the newest image with its header
abbrev pub run_text : List (List ℕ) → List ReplyLine → Managed → List ℕ
run_text clients lines manager =
    lines_text clients lines ++ (10 ∷ [] ++ image_text manager.schema (rows_of (newest_table manager)))

-- the table wasn't stored
pub record IsUnopened (opening : Journaled) (had : Taken) (told : Refusal) : Type 0 where
  pub fault : ImageFault
  pub is : told ≡ image_refusal fault
  pub journaled : Journaled
  pub has : Taken
  pub imaged : IsImaged opening had (Err fault) journaled has

-- the run has no room for its clients, the table wasn't stored, or what is written isn't whole
abbrev pub IsRunRefusal : Journaled → Taken → Refusal → Type 0
IsRunRefusal opening had (refusal.Run fault) = Unit {0}
IsRunRefusal opening had (refusal.Output fault) = Unit {0}
IsRunRefusal opening had (refusal.Store fault) = IsUnopened opening had (refusal.Store fault)
IsRunRefusal opening had refusal.JournalFailed = IsUnopened opening had refusal.JournalFailed
IsRunRefusal opening had other = ⊥
