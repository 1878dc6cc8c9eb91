-- Names, arguments and calls of a script, one after the other.
use Rattle.std.proofs.Common.{◌≡◌, ◌∙◌, ◌<◌, ◌≤◌, ◌+◌, ℕ, zero, suc, true, false, List, [], ◌∷◌, ◌++◌, length, drop, slice_get, Some, None, Ok, Err, Bor, refl, ap, arith, append_assoc, add-one, inl, inr, eq-eqb}
use Rattle.std.proofs.lemmas.Bool.{cases_Bool, ne_eqb}
use Rattle.std.proofs.lemmas.List.{append-nil}
use Rattle.std.proofs.lemmas.Str.{IsUtf8-from_is_utf8}
use Rattle.std.proofs.Math.Seq.{drop-nil}
use Rattle.std.specs.List.{list_all}
use Rattle.std.specs.Str.{IsUtf8, is_utf8, bytes_eq}
use Rattle.csv.specs.Records.{field_at}
use Rattle.csv.specs.declared.reader.Reader.{Reader}
use Rattle.values.specs.Shape.{Columns}
use Rattle.values.specs.declared.value.ColumnType.{ColumnType}
use Rattle.values.specs.declared.value.Value.{Value}
use Rattle.inputs.specs.Cells.{value_of, prepend, place_from}
use Rattle.inputs.specs.Reading.{Fields, AreRecordsOf, IsReading}
use Rattle.inputs.specs.Calls.{verb_of, arguments_of, values_of, set_cell, set_column, typed_call, asked}
use Rattle.values.specs.declared.limits.TheConstants.{MAX_CLIENTS}
use Rattle.inputs.specs.Clients.{number_of, is_client, client_of, clients_after, clients_of}
use Rattle.inputs.specs.Script.{call_of, calls_of, script_of}
use Rattle.inputs.specs.declared.call.ClientCall.{ClientCall}
use Rattle.inputs.specs.declared.fault.ScriptFault.{ScriptFault}
use Rattle.inputs.specs.declared.fault.ScriptFault.TheVariants.{BadClient, TooManyClients, BadCount, BadVerb, BadArgument}
use Rattle.inputs.specs.declared.verb.Verb.{Verb}
use Rattle.inputs.proofs.CellLemmas.{lt_true, lt_false, le_true, le_false}
use Rattle.inputs.proofs.ReadLemmas.{records-start, prepend-then_cons}
use Rattle.blocks.proofs.CallerLemmas.{both_held}

-- ---- places

-- no field at a place, and none after it
pub drop-no_field : (fields : Fields) (i : ℕ) → None ≡ field_at fields i → drop i fields ≡ []
unfolding field_at
drop-no_field [] i e = drop-nil i
drop-no_field (f ∷ fields) zero e = cc e
drop-no_field (f ∷ fields) (suc i) e = drop-no_field fields i e

-- from a place on, a list is what stands there and what stands after it
pub drop-slice_get : {X : Type 0} (xs : List X) (i : ℕ) (x : X) → slice_get xs i ≡ Some x → drop i xs ≡ x ∷ drop (suc i) xs
drop-slice_get [] i x e = cc e
drop-slice_get (y ∷ xs) zero x e = let same : y ≡ x = cc e in ap (λ z. z ∷ xs) same
drop-slice_get (y ∷ xs) (suc i) x e = drop-slice_get xs i x e

pub place_from-here : (i : ℕ) (name other : List ℕ) (names : List (List ℕ)) → drop i names ≡ other ∷ drop (suc i) names
    → bytes_eq other name ≡ true → place_from i name (drop i names) ≡ Some i
place_from-here i name other names h e = rw (h, e) refl

pub place_from-next : (i : ℕ) (name other : List ℕ) (names : List (List ℕ)) → drop i names ≡ other ∷ drop (suc i) names
    → bytes_eq other name ≡ false
    → place_from i name (drop i names) ≡ place_from (i + 1) name (drop (i + 1) names)
place_from-next i name other names h e = rw (h, e, add-one) refl

-- ---- clients

pub client_of-none : (clients : List (List ℕ)) (number : ℕ) (fields : Fields) → fields ≡ []
    → client_of clients number fields ≡ Err (BadClient number)
client_of-none clients number fields e = rw e refl

module _ (clients : List (List ℕ)) (number : ℕ) (fields rest : Fields) (name : List ℕ) (e : fields ≡ name ∷ rest) where
  pub client_of-bad : is_client name ≡ false → client_of clients number fields ≡ Err (BadClient number)
  client_of-bad h = rw (e, h) refl

  pub client_of-too_many : is_client name ≡ true → MAX_CLIENTS ≤ number_of name clients
      → client_of clients number fields ≡ Err (TooManyClients number)
  client_of-too_many h m = rw (e, h, le_true MAX_CLIENTS (number_of name clients) m) refl

  pub client_of-ok : is_client name ≡ true → number_of name clients < MAX_CLIENTS
      → client_of clients number fields ≡ Ok (number_of name clients)
  client_of-ok h m = rw (e, h, le_false MAX_CLIENTS (number_of name clients) m) refl

pub clients_after-none : (clients : List (List ℕ)) (fields : Fields) → fields ≡ [] → clients_after clients fields ≡ clients
clients_after-none clients fields e = rw e refl

-- the first of fields that are text is text
pub first-text : (fields rest : Fields) (name : List ℕ) → fields ≡ name ∷ rest → list_all is_utf8 fields ≡ true → ¬ (IsUtf8 name) → ⊥
first-text fields rest name e all other =
    other (IsUtf8-from_is_utf8 name (both_held (is_utf8 name) (list_all is_utf8 rest) (rw e at all)).0)

-- ---- arguments

module _ (number i : ℕ) (types : List ColumnType) (fields : Fields) (type : ColumnType) (field : List ℕ) (values : List Value)
    (ht : drop i types ≡ type ∷ drop (suc i) types) (hf : drop (2 + i) fields ≡ field ∷ drop (suc (2 + i)) fields) where
  pub values_of-step : (value : Value) → value_of type field ≡ Some value
      → prepend values (values_of number (2 + i) (drop i types) (drop (2 + i) fields))
      ≡ prepend (values ++ value ∷ []) (values_of number (2 + (i + 1)) (drop (i + 1) types) (drop (2 + (i + 1)) fields))
  values_of-step value hv =
      let next : 2 + (i + 1) ≡ suc (2 + i) = omega arith in
      rw (ht, hf, hv, next, add-one) (prepend-then_cons values value _)

  pub values_of-fault : value_of type field ≡ None
      → prepend values (values_of number (2 + i) (drop i types) (drop (2 + i) fields)) ≡ Err (BadArgument number (2 + i))
  values_of-fault hv = rw (ht, hf, hv) refl

pub set_cell-parts : (schema : Columns) (number at : ℕ) (key : List Value) (fields : Fields) (name field : List ℕ)
    → drop at fields ≡ name ∷ drop (suc at) fields → drop (at + 1) fields ≡ field ∷ drop (suc (at + 1)) fields
    → set_cell schema number at key (drop at fields) ≡ set_column schema number at key (place_from 0 name schema.names) field
set_cell-parts schema number at key fields name field h g = rw (h, rw add-one at g) refl

-- ---- verbs

pub asked-no_verb : (schema : Columns) (number : ℕ) (fields : Fields) → drop 1 fields ≡ []
    → asked schema number fields ≡ Err (BadCount number)
asked-no_verb schema number fields e = rw e refl

module _ (schema : Columns) (number : ℕ) (fields : Fields) (word : List ℕ) (e : drop 1 fields ≡ word ∷ drop 2 fields) where
  pub asked-bad_verb : verb_of word ≡ None → asked schema number fields ≡ Err (BadVerb number)
  asked-bad_verb h = rw (e, h) refl

  pub asked-bad_count : (verb : Verb) → verb_of word ≡ Some verb → (length fields ≡ 2 + arguments_of schema verb → ⊥)
      → asked schema number fields ≡ Err (BadCount number)
  asked-bad_count verb h n = rw (e, h, ne_eqb (length fields) (2 + arguments_of schema verb) n) refl

  pub asked-typed : (verb : Verb) → verb_of word ≡ Some verb → length fields ≡ 2 + arguments_of schema verb
      → asked schema number fields ≡ typed_call schema number verb fields
  asked-typed verb h n = rw (e, h, eq-eqb (length fields) (2 + arguments_of schema verb) n) refl

-- ---- records

-- a record that asks for a call is text
pub call_of-text : (schema : Columns) (clients : List (List ℕ)) (number : ℕ) (fields : Fields) (call : ClientCall)
    → call_of schema clients number fields ≡ Ok call → list_all is_utf8 fields ≡ true
call_of-text schema clients number fields call e = elim (cases_Bool (list_all is_utf8 fields)) [
  | inl t ↦ t
  | inr f ↦ cc (rw f at e)
]

module _ (schema : Columns) (read : List Fields) (number : ℕ) (clients : List (List ℕ)) (fields : Fields) (calls : List ClientCall)
    (so : (more : List Fields) → calls_of schema [] 1 (read ++ more) ≡ prepend calls (calls_of schema clients number more)) where
  pub calls_of-step : (call : ClientCall) → call_of schema clients number fields ≡ Ok call
      → (more : List Fields) → calls_of schema [] 1 ((read ++ fields ∷ []) ++ more)
      ≡ prepend (calls ++ call ∷ []) (calls_of schema (clients_after clients fields) (number + 1) more)
  calls_of-step call h more =
      rw (append_assoc read (fields ∷ []) more) (so (fields ∷ more) ∙ rw (h, add-one) (prepend-then_cons calls call _))

  pub script_of-fault : (text : List ℕ) (all : List Fields) (fault : ScriptFault) (reader : Reader (Bor (List ℕ)))
      → IsReading text (read ++ fields ∷ []) reader → call_of schema clients number fields ≡ Err fault → AreRecordsOf text all
      → script_of schema all ≡ Err fault
  script_of-fault text all fault reader h e g =
      let rest = records-start text (read ++ fields ∷ []) all reader h g in
      let bad : calls_of schema [] 1 ((read ++ fields ∷ []) ++ rest.0) ≡ Err fault =
      rw (append_assoc read (fields ∷ []) rest.0) (so (fields ∷ rest.0) ∙ rw e refl) in
      rw rest.1 (rw bad refl)

pub clients_of-step : (read : List Fields) (clients : List (List ℕ)) (fields : Fields)
    → ((more : List Fields) → clients_of [] (read ++ more) ≡ clients_of clients more)
    → (more : List Fields) → clients_of [] ((read ++ fields ∷ []) ++ more) ≡ clients_of (clients_after clients fields) more
clients_of-step read clients fields so more = rw (append_assoc read (fields ∷ []) more) (so (fields ∷ more))

pub script_of-ok : (schema : Columns) (read : List Fields) (number : ℕ) (clients : List (List ℕ)) (calls : List ClientCall)
    → ((more : List Fields) → clients_of [] (read ++ more) ≡ clients_of clients more)
    → ((more : List Fields) → calls_of schema [] 1 (read ++ more) ≡ prepend calls (calls_of schema clients number more))
    → script_of schema read ≡ Ok (clients, calls)
script_of-ok schema read number clients calls names so =
    let all_names : clients_of [] read ≡ clients = rw append-nil at (names []) in
    let all_calls : calls_of schema [] 1 read ≡ Ok calls = rw (append-nil read, append-nil calls) at (so []) in
    rw (all_names, all_calls) refl
