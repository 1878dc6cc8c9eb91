-- The calls that a script's records say, and its clients, or the first fault.
use Rattle.std.specs.Prelude.{◌≡◌, ℕ, suc, cond, Result, Ok, Err, List, [], ◌∷◌}
use Rattle.std.specs.List.{list_all}
use Rattle.std.specs.Str.{is_utf8}
use Rattle.values.specs.Shape.{Columns}
use Rattle.inputs.specs.Cells.{then_cons}
use Rattle.inputs.specs.Reading.{Fields, AreRecordsOf}
use Rattle.inputs.specs.Clients.{client_of, clients_after, clients_of}
use Rattle.inputs.specs.Calls.{asked}
use Rattle.inputs.specs.declared.call.Call.{Call}
use Rattle.inputs.specs.declared.call.ClientCall.{ClientCall}
use Rattle.inputs.specs.declared.fault.ScriptFault.{ScriptFault}
use Rattle.inputs.specs.declared.fault.ScriptFault.TheVariants.{BadText}

abbrev pub with_client : Result ℕ ScriptFault → Result Call ScriptFault → Result ClientCall ScriptFault
with_client (Err fault) call = Err fault
with_client (Ok client) (Err fault) = Err fault
with_client (Ok client) (Ok call) = Ok (record { client = client; call = call })

-- the call of the record of this number
abbrev pub call_of : Columns → List (List ℕ) → ℕ → Fields → Result ClientCall ScriptFault
call_of schema clients number fields =
    cond (list_all is_utf8 fields) (with_client (client_of clients number fields) (asked schema number fields)) (Err (BadText number))

abbrev pub calls_of : Columns → List (List ℕ) → ℕ → List Fields → Result (List ClientCall) ScriptFault
calls_of schema clients number [] = Ok []
calls_of schema clients number (fields ∷ records) =
    then_cons (call_of schema clients number fields) (calls_of schema (clients_after clients fields) (suc number) records)

abbrev pub with_clients : List (List ℕ) → Result (List ClientCall) ScriptFault → Result (List (List ℕ) × List ClientCall) ScriptFault
with_clients clients (Err fault) = Err fault
with_clients clients (Ok calls) = Ok (clients, calls)

-- the clients and the calls, in the order of the records, or the first fault
abbrev pub script_of : Columns → List Fields → Result (List (List ℕ) × List ClientCall) ScriptFault
script_of schema records = with_clients (clients_of [] records) (calls_of schema [] 1 records)

-- the text's records say these clients and these calls
pub record IsScriptOf (schema : Columns) (text : List ℕ) (clients : List (List ℕ)) (calls : List ClientCall) : Type 0 where
  pub records : List Fields
  pub are : AreRecordsOf text records
  pub said : script_of schema records ≡ Ok (clients, calls)

-- whatever the text's records are, this is their first fault
abbrev pub IsScriptFaultOf : Columns → List ℕ → ScriptFault → Type 0
IsScriptFaultOf schema text fault = (records : List Fields) → AreRecordsOf text records → script_of schema records ≡ Err fault
