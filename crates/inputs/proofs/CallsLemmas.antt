-- What every call that was read keeps: its values are of their columns' types.
use Rattle.std.proofs.Common.{◌≡◌, ◌≤◌, ◌+◌, ℕ, suc, true, List, [], ◌∷◌, length, drop, slice_get, Option, Some, None, Result, Ok, Err, refl, arith, inl, inr, eq-eqb}
use Rattle.std.specs.List.{All}
use Rattle.std.specs.Option.{option_map}
use Rattle.std.specs.Str.{is_utf8}
use Rattle.std.proofs.lemmas.Bool.{cases_Bool, cases_eq, ne_eqb}
use Rattle.std.proofs.lemmas.List.{length-drop, length-take}
use Rattle.std.proofs.lemmas.List.Elements.{All-cons}
use Rattle.values.specs.Shape.{Columns, has_type}
use Rattle.values.specs.declared.value.ColumnType.{ColumnType}
use Rattle.values.specs.declared.value.ColumnType.TheVariants as column
use Rattle.values.specs.declared.value.Value.{Value}
use Rattle.values.specs.declared.value.Value.TheVariants.{Int, Text, Bool as Truth}
use Rattle.model.specs.declared.write.Write.TheVariants.{Insert, Delete, Set}
use Rattle.inputs.specs.Cells.{int_of, truth_of, value_of, place_from}
use Rattle.inputs.specs.Calls.{verb_of, arguments_of, key_types, values_of, value_at, set_value, set_column, set_cell, inserted, of_key, position_at, read_at, scan_between, at_call, scan_call, set_of, typed_call, verb_call, word_call}
use Rattle.inputs.specs.Typed.{are_of_types, is_of_column, is_typed_call}
use Rattle.inputs.specs.Clients.{clients_after}
use Rattle.inputs.specs.Reading.{Fields}
use Rattle.inputs.specs.Script.{call_of, calls_of, script_of}
use Rattle.inputs.specs.declared.call.Call.{Call}
use Rattle.inputs.specs.declared.call.Call.TheVariants.{Begin, Write, Read, Commit, Abort, Fold, Checkpoint, Cut}
use Rattle.inputs.specs.declared.call.Read.TheVariants.{Get, At, Rank, Len, Scan}
use Rattle.inputs.specs.declared.call.ClientCall.{ClientCall}
use Rattle.inputs.specs.declared.fault.ScriptFault.{ScriptFault}
use Rattle.inputs.specs.declared.verb.Verb.{Verb}
use Rattle.inputs.specs.declared.verb.Verb.TheVariants as verb
use Rattle.inputs.proofs.ClientsLemmas.{call_of-parts, script_of-parts}
use Rattle.inputs.proofs.ReadLemmas.{then_cons-parts, or_else-parts}

-- ---- values

mapped : {A : Type 0} (type : ColumnType) (f : A → Value) (o : Option A) (v : Value) → ((a : A) → has_type type (f a) ≡ true)
    → option_map f o ≡ Some v → has_type type v ≡ true
mapped type f None v h e = cc e
mapped type f (Some a) v h e = let same : f a ≡ v = cc e in rw (← same) (h a)

-- a value that was read is of its type
pub value_of-typed : (type : ColumnType) (bytes : List ℕ) (v : Value) → value_of type bytes ≡ Some v → has_type type v ≡ true
value_of-typed column.Int bytes v e = mapped column.Int Int (int_of bytes) v (λ a. refl) e
value_of-typed column.Bool bytes v e = mapped column.Bool Truth (truth_of bytes) v (λ a. refl) e
value_of-typed column.Text bytes v e = elim (cases_Bool (is_utf8 bytes)) [
  | inl t ↦ let same : Text bytes ≡ v = cc (rw t at e) in rw (← same) refl
  | inr f ↦ cc (rw f at e)
]

values_of-typed : (number at : ℕ) (types : List ColumnType) (fields : Fields) (values : List Value) → length types ≤ length fields
    → values_of number at types fields ≡ Ok values
    → are_of_types types values ≡ true
values_of-typed number at [] fields values l e = let none : values ≡ [] = cc e in rw none refl
values_of-typed number at (type ∷ types) [] values l e = absurd (omega (arith, l))
values_of-typed number at (type ∷ types) (field ∷ fields) values l e =
    let parts = then_cons-parts _ (values_of number (suc at) types fields) values e in
    let one = value_of-typed type field parts.0 (or_else-parts _ (value_of type field) parts.0 parts.2) in
    let rest = values_of-typed number (suc at) types fields parts.1 (omega (arith, l)) parts.3 in
    rw (parts.4, one, rest) refl

value_at-typed : (o : Option ColumnType) (field : List ℕ) (v : Value) → value_at o field ≡ Some v → is_of_column o v ≡ true
value_at-typed None field v e = cc e
value_at-typed (Some type) field v e = value_of-typed type field v e

-- ---- calls

inserted-parts : (r : Result (List Value) ScriptFault) (call : Call) → inserted r ≡ Ok call
    → (cells : List Value) × (r ≡ Ok cells) × (Write (Insert cells) ≡ call)
inserted-parts (Err f) call e = cc e
inserted-parts (Ok cells) call e = (cells, refl, cc e)

of_key-parts : (ask : List Value → Call) (r : Result (List Value) ScriptFault) (call : Call) → of_key ask r ≡ Ok call
    → (cells : List Value) × (r ≡ Ok cells) × (ask cells ≡ call)
of_key-parts ask (Err f) call e = cc e
of_key-parts ask (Ok cells) call e = (cells, refl, cc e)

read_at-typed : (schema : Columns) (r : Result ℕ ScriptFault) (call : Call) → read_at r ≡ Ok call → is_typed_call schema call ≡ true
read_at-typed schema (Err f) call e = cc e
read_at-typed schema (Ok rid) call e = let same : Read (At rid) ≡ call = cc e in rw (← same) refl

at_call-typed : (schema : Columns) (number : ℕ) (fields : Fields) (call : Call) → at_call number fields ≡ Ok call
    → is_typed_call schema call ≡ true
at_call-typed schema number [] call e = cc e
at_call-typed schema number (field ∷ rest) call e = read_at-typed schema (position_at number 2 field) call e

scan_between-typed : (schema : Columns) (from to : Result ℕ ScriptFault) (call : Call) → scan_between from to ≡ Ok call
    → is_typed_call schema call ≡ true
scan_between-typed schema (Err f) to call e = cc e
scan_between-typed schema (Ok from) (Err f) call e = cc e
scan_between-typed schema (Ok from) (Ok to) call e = let same : Read (Scan from to) ≡ call = cc e in rw (← same) refl

scan_call-typed : (schema : Columns) (number : ℕ) (fields : Fields) (call : Call) → scan_call number fields ≡ Ok call
    → is_typed_call schema call ≡ true
scan_call-typed schema number [] call e = cc e
scan_call-typed schema number (from ∷ []) call e = cc e
scan_call-typed schema number (from ∷ to ∷ rest) call e =
    scan_between-typed schema (position_at number 2 from) (position_at number 3 to) call e

set_of-parts : (schema : Columns) (number : ℕ) (r : Result (List Value) ScriptFault) (rest : Fields) (call : Call)
    → set_of schema number r rest ≡ Ok call
    → (key : List Value) × (r ≡ Ok key) × (set_cell schema number (2 + schema.key_cols) key rest ≡ Ok call)
set_of-parts schema number (Err f) rest call e = cc e
set_of-parts schema number (Ok key) rest call e = (key, refl, e)

set_value-parts : (key : List Value) (col : ℕ) (r : Result Value ScriptFault) (call : Call) → set_value key col r ≡ Ok call
    → (v : Value) × (r ≡ Ok v) × (Write (Set key col v) ≡ call)
set_value-parts key col (Err f) call e = cc e
set_value-parts key col (Ok v) call e = (v, refl, cc e)

set_column-typed : (schema : Columns) (number at : ℕ) (key : List Value) (o : Option ℕ) (field : List ℕ) (call : Call)
    → are_of_types (key_types schema) key ≡ true
    → set_column schema number at key o field ≡ Ok call → is_typed_call schema call ≡ true
set_column-typed schema number at key None field call h e = cc e
set_column-typed schema number at key (Some col) field call h e =
    let parts = set_value-parts key col _ call e in
    let cell = value_at-typed (slice_get schema.types col) field parts.0 (or_else-parts _ _ parts.0 parts.1) in
    rw (← parts.2) (rw (h, cell) refl)

set_cell-typed : (schema : Columns) (number at : ℕ) (key : List Value) (rest : Fields) (call : Call)
    → are_of_types (key_types schema) key ≡ true
    → set_cell schema number at key rest ≡ Ok call → is_typed_call schema call ≡ true
set_cell-typed schema number at key [] call h e = cc e
set_cell-typed schema number at key (name ∷ []) call h e = cc e
set_cell-typed schema number at key (name ∷ field ∷ rest) call h e =
    set_column-typed schema number at key (place_from 0 name schema.names) field call h e

-- there are no more types of the key than its columns
key_types-short : (schema : Columns) → length (key_types schema) ≤ schema.key_cols
key_types-short schema = let l = length-take schema.key_cols schema.types in omega (arith, l)

typed_call-typed : (schema : Columns) (number : ℕ) (verb : Verb) (fields : Fields) (call : Call)
    → length fields ≡ 2 + arguments_of schema verb
    → typed_call schema number verb fields ≡ Ok call → is_typed_call schema call ≡ true
typed_call-typed schema number verb.Begin fields call l e = let same : Begin ≡ call = cc e in rw (← same) refl
typed_call-typed schema number verb.Commit fields call l e = let same : Commit ≡ call = cc e in rw (← same) refl
typed_call-typed schema number verb.Abort fields call l e = let same : Abort ≡ call = cc e in rw (← same) refl
typed_call-typed schema number verb.Fold fields call l e = let same : Fold ≡ call = cc e in rw (← same) refl
typed_call-typed schema number verb.Checkpoint fields call l e = let same : Checkpoint ≡ call = cc e in rw (← same) refl
typed_call-typed schema number verb.Cut fields call l e = let same : Cut ≡ call = cc e in rw (← same) refl
typed_call-typed schema number verb.Insert fields call l e =
    let parts = inserted-parts _ call e in
    let left = length-drop 2 fields in
    let row = values_of-typed number 2 schema.types (drop 2 fields) parts.0 (omega (arith, l, left)) parts.1 in
    rw (← parts.2) row
typed_call-typed schema number verb.Delete fields call l e =
    let parts = of_key-parts (λ key. Write (Delete key)) (values_of number 2 (key_types schema) (drop 2 fields)) call e in
    let left = length-drop 2 fields in
    let short = key_types-short schema in
    let key = values_of-typed number 2 (key_types schema) (drop 2 fields) parts.0 (omega (arith, l, left, short)) parts.1 in
    rw (← parts.2) key
typed_call-typed schema number verb.Get fields call l e =
    let parts = of_key-parts (λ key. Read (Get key)) (values_of number 2 (key_types schema) (drop 2 fields)) call e in
    let left = length-drop 2 fields in
    let short = key_types-short schema in
    let key = values_of-typed number 2 (key_types schema) (drop 2 fields) parts.0 (omega (arith, l, left, short)) parts.1 in
    rw (← parts.2) key
typed_call-typed schema number verb.Rank fields call l e =
    let parts = of_key-parts (λ key. Read (Rank key)) (values_of number 2 (key_types schema) (drop 2 fields)) call e in
    let left = length-drop 2 fields in
    let short = key_types-short schema in
    let key = values_of-typed number 2 (key_types schema) (drop 2 fields) parts.0 (omega (arith, l, left, short)) parts.1 in
    rw (← parts.2) key
typed_call-typed schema number verb.At fields call l e = at_call-typed schema number (drop 2 fields) call e
typed_call-typed schema number verb.Len fields call l e = let same : Read Len ≡ call = cc e in rw (← same) refl
typed_call-typed schema number verb.Scan fields call l e = scan_call-typed schema number (drop 2 fields) call e
typed_call-typed schema number verb.Set fields call l e =
    let parts = set_of-parts schema number _ _ call e in
    let left = length-drop 2 fields in
    let short = key_types-short schema in
    let key = values_of-typed number 2 (key_types schema) (drop 2 fields) parts.0 (omega (arith, l, left, short)) parts.1 in
    set_cell-typed schema number (2 + schema.key_cols) parts.0 _ call key parts.2

verb_call-typed : (schema : Columns) (number : ℕ) (fields : Fields) (o : Option Verb) (call : Call)
    → verb_call schema number fields o ≡ Ok call → is_typed_call schema call ≡ true
verb_call-typed schema number fields None call e = cc e
verb_call-typed schema number fields (Some verb) call e = elim (cases_eq (length fields) (2 + arguments_of schema verb)) [
  | inl s ↦ typed_call-typed schema number verb fields call s (rw (eq-eqb (length fields) (2 + arguments_of schema verb) s) at e)
  | inr n ↦ cc (rw (ne_eqb (length fields) (2 + arguments_of schema verb) n) at e)
]

word_call-typed : (schema : Columns) (number : ℕ) (fields rest : Fields) (call : Call)
    → word_call schema number fields rest ≡ Ok call → is_typed_call schema call ≡ true
word_call-typed schema number fields [] call e = cc e
word_call-typed schema number fields (word ∷ rest) call e = verb_call-typed schema number fields (verb_of word) call e

-- ---- all records

calls_of-typed : (schema : Columns) (clients : List (List ℕ)) (number : ℕ) (records : List Fields) (calls : List ClientCall)
    → calls_of schema clients number records ≡ Ok calls
    → All (λ call. is_typed_call schema call.call ≡ true) calls
calls_of-typed schema clients number [] calls e = let none : calls ≡ [] = cc e in rw none (λ k d l. absurd (omega (arith, l)))
calls_of-typed schema clients number (fields ∷ records) calls e =
    let parts =
    then_cons-parts (call_of schema clients number fields)
    (calls_of schema (clients_after clients fields) (suc number) records) calls e in
    let one =
    word_call-typed schema number fields (drop 1 fields) parts.0.call
    (call_of-parts schema clients number fields parts.0 parts.2).1 in
    rw parts.4 (All-cons (λ (call : ClientCall). is_typed_call schema call.call ≡ true) parts.0 parts.1 one
    (calls_of-typed schema (clients_after clients fields) (suc number) records parts.1 parts.3))

pub script_of-typed : (schema : Columns) (records : List Fields) (clients : List (List ℕ)) (calls : List ClientCall)
    → script_of schema records ≡ Ok (clients, calls)
    → All (λ call. is_typed_call schema call.call ≡ true) calls
script_of-typed schema records clients calls e = calls_of-typed schema [] 1 records calls (script_of-parts schema records clients calls e).1
