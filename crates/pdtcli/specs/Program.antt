-- What the program makes of its files: the table and the script that they say, a run of the one over the other, and which
-- part is refused.
use Rattle.std.specs.Prelude.{◌≡◌, ◌≢◌, ℕ, ◌+◌, Option, None, Result, Ok, Err, List, IsOkAnd, length, replicate, sum, unwrap_or}
use Rattle.std.proofs.Common.{Bor}
use Rattle.values.specs.Shape.{Columns}
use Rattle.stable.specs.Stable.{Stable}
use Rattle.txn.specs.Txn.{Transaction}
use Rattle.inputs.specs.Input.{IsTableOf, IsFaultOf}
use Rattle.devices.specs.Appending.{Taken}
use Rattle.inputs.specs.Script.{IsScriptOf, IsScriptFaultOf}
use Rattle.inputs.specs.Typed.{Typed}
use Rattle.inputs.specs.declared.call.ClientCall.{ClientCall}
use Rattle.inputs.specs.declared.fault.ScriptFault.{ScriptFault}
use Rattle.inputs.specs.declared.fault.ScriptFault.TheVariants as script_fault
use Rattle.inputs.specs.declared.fault.TableFault.{TableFault}
use Rattle.inputs.specs.declared.fault.TableFault.TheVariants as table_fault
use Rattle.manager.specs.Managed.{Managed, IsManaged, fault_of_opening, opened}
use Rattle.pdtcli.specs.Clients.{IsClientsRefusal, IsLeft}
use Rattle.pdtcli.specs.Outcome.{Left}
use Rattle.pdtcli.specs.Run.{IsRun, State}
use Rattle.manager.specs.declared.fault.OpenFault.TheVariants as open_fault
use Rattle.pdtcli.specs.declared.program.FileFault.{FileFault}
use Rattle.pdtcli.specs.declared.program.FileFault.TheVariants as file
use Rattle.pdtcli.specs.declared.program.OpenOptions.{OpenOptions}
use Rattle.pdtcli.specs.declared.refusal.Refusal.{Refusal}
use Rattle.pdtcli.specs.declared.refusal.Refusal.TheVariants.{UnreadableTable, Table, UnreadableScript, Script, Open, Run, Threads, Output}

-- ---- what the files say

-- a file: its bytes, or why they aren't there
abbrev pub File : Type 0
File = Result (List ℕ) FileFault

abbrev pub bytes_of : Result (Bor (List ℕ)) FileFault → File
bytes_of (Ok bytes) = Ok bytes.now
bytes_of (Err fault) = Err fault

-- the one says this table
abbrev pub HasTable : File → Stable → Type 0
HasTable table stable = IsOkAnd table (λ text. IsTableOf text stable.schema stable.rows)

-- the other says these clients and calls, under the table's schema
abbrev pub HasScript : Columns → File → List (List ℕ) → List ClientCall → Type 0
HasScript schema script clients calls = IsOkAnd script (λ text. IsScriptOf schema text clients calls)

pub record Inputs : Type 0 where
  pub stable : Stable
  pub clients : List (List ℕ)
  pub calls : List ClientCall

pub record AreInputs (table script : File) (inputs : Inputs) : Type 0 where
  pub table_read : HasTable table inputs.stable
  pub script_read : HasScript inputs.stable.schema script inputs.clients inputs.calls

-- ---- the opening and the run

-- the manager of the table that the one file says, opened so, and the script of the other
pub record IsOpening (table script : File) (options : OpenOptions) (manager : Managed) (typed : Typed) : Type 0 where
  pub stable : Stable
  pub read : AreInputs table script (record { stable = stable; clients = typed.clients; calls = typed.calls })
  pub fits : fault_of_opening stable options.recent options.limit ≡ None
  pub manager_is : manager ≡ opened stable options.limit options.recent options.conflicts

-- the manager and the store, and no transaction open
abbrev pub first_state : Managed → Typed → Taken → State
first_state manager script store = record { manager = manager; transactions = replicate (length script.clients) None; store = store }

-- this is left of a run of the script's calls from there on
pub record IsRunFrom (manager : Managed) (script : Typed) (store : Taken) (left : Left) : Type 0 where
  pub transactions : List (Option Transaction)
  pub after : Taken
  pub clients : left.clients ≡ script.clients
  pub run :
      IsRun (first_state manager script store) script.calls left.lines
      (record { manager = left.manager; transactions = transactions; store = after })

-- this is left of the script's clients on threads of their own, each of which made its calls; a record was made for each commit
-- that was decided, and the manager is lawful
pub record IsRunOnThreads (manager : Managed) (script : Typed) (left : Left) : Type 0 where
  pub clients : left.clients ≡ script.clients
  pub made : IsLeft manager script.calls (length script.clients) left
  pub records : left.manager.made ≡ manager.made + sum left.counts
  pub lawful : IsManaged left.manager

-- the run has no room for its replies, or what it leaves isn't written whole
abbrev pub IsRunRefusal : Managed → Typed → Taken → Refusal → Type 0
IsRunRefusal manager script store (Run fault) = Unit {0}
IsRunRefusal manager script store (Output fault) = (left : Left) × IsRunFrom manager script store left
IsRunRefusal manager script store refusal = ⊥

-- the clients' threads leave nothing, or what they leave isn't written whole
abbrev pub IsThreadsRefusal : Managed → Typed → Refusal → Type 0
IsThreadsRefusal manager script (Threads fault) = IsClientsRefusal (length script.clients) fault
IsThreadsRefusal manager script (Output fault) = (left : Left) × IsRunOnThreads manager script left
IsThreadsRefusal manager script refusal = ⊥

-- ---- refusals

-- the fault is the first of the table's text, or want of memory, for its text as well as for its bytes
abbrev pub IsTableFault : File → TableFault → Type 0
IsTableFault (Ok text) fault = fault ≢ table_fault.NoMemory → IsFaultOf text fault
IsTableFault (Err file_fault) fault = (file_fault ≡ file.NoMemory) × (fault ≡ table_fault.NoMemory)

-- the table is refused: its file can't be read, or it has this fault
abbrev pub IsTableRefusal : File → Refusal → Type 0
IsTableRefusal table UnreadableTable = table ≡ Err file.Unreadable
IsTableRefusal table (Table fault) = IsTableFault table fault
IsTableRefusal table refusal = ⊥

-- likewise for the script
abbrev pub IsScriptFault : Columns → File → ScriptFault → Type 0
IsScriptFault schema (Ok text) fault = fault ≢ script_fault.NoMemory → IsScriptFaultOf schema text fault
IsScriptFault schema (Err file_fault) fault = (file_fault ≡ file.NoMemory) × (fault ≡ script_fault.NoMemory)

abbrev pub IsScriptRefusal : Columns → File → Refusal → Type 0
IsScriptRefusal schema script UnreadableScript = script ≡ Err file.Unreadable
IsScriptRefusal schema script (Script fault) = IsScriptFault schema script fault
IsScriptRefusal schema script refusal = ⊥

-- the first part that is refused before a run, with its fault; the parts before it are not refused
abbrev pub IsRefusalOf : File → File → OpenOptions → Refusal → Type 0
IsRefusalOf table script options UnreadableTable = IsTableRefusal table UnreadableTable
IsRefusalOf table script options (Table fault) = IsTableRefusal table (Table fault)
IsRefusalOf table script options UnreadableScript =
    (stable : Stable) × HasTable table stable × IsScriptRefusal stable.schema script UnreadableScript
IsRefusalOf table script options (Script fault) =
    (stable : Stable) × HasTable table stable × IsScriptRefusal stable.schema script (Script fault)
IsRefusalOf table script options (Open fault) =
    (inputs : Inputs) × AreInputs table script inputs
    × (fault ≡ unwrap_or (fault_of_opening inputs.stable options.recent options.limit) open_fault.NoMemory)
IsRefusalOf table script options refusal = ⊥

-- ---- the status

-- the run's, or 1 where a part was refused
abbrev pub status_of : Result ℕ Refusal → ℕ
status_of (Ok status) = status
status_of (Err refusal) = 1
