-- Each call of a script is of one of its clients, and these are few.
use Rattle.std.proofs.Common.{◌≡◌, ◌<◌, ◌≤◌, ◌+◌, ℕ, suc, List, [], ◌∷◌, ◌++◌, length, Option, Some, None, Result, Ok, Err, refl, ap, arith, inl, inr}
use Rattle.std.specs.Prelude.{unwrap_or}
use Rattle.std.specs.List.{All, list_all}
use Rattle.std.specs.Str.{is_utf8, bytes_eq}
use Rattle.std.proofs.lemmas.Bool.{cases_Bool, cases_lt}
use Rattle.std.proofs.lemmas.List.{length-append}
use Rattle.std.proofs.lemmas.List.Elements.{All-cons}
use Rattle.values.specs.Shape.{Columns}
use Rattle.inputs.specs.Cells.{place_from}
use Rattle.inputs.specs.Calls.{asked}
use Rattle.inputs.specs.Clients.{is_client, number_of, clients_with, clients_after, clients_of, client_of}
use Rattle.inputs.specs.Reading.{Fields}
use Rattle.inputs.specs.Script.{with_client, call_of, calls_of, with_clients, script_of}
use Rattle.inputs.specs.declared.call.Call.{Call}
use Rattle.inputs.specs.declared.call.ClientCall.{ClientCall}
use Rattle.inputs.specs.declared.fault.ScriptFault.{ScriptFault}
use Rattle.values.specs.declared.limits.TheConstants.{MAX_CLIENTS}
use Rattle.inputs.proofs.CellLemmas.{lt_true, lt_false, le_true, le_false}
use Rattle.inputs.proofs.ReadLemmas.{then_cons-parts}

-- ---- numbers

place_from-within : (at : ℕ) (name : List ℕ) (names : List (List ℕ)) (n : ℕ) → place_from at name names ≡ Some n → n < at + length names
place_from-within at name [] n e = cc e
place_from-within at name (other ∷ names) n e = elim (cases_Bool (bytes_eq other name)) [
  | inl t ↦ let here : at ≡ n = cc (rw t at e) in omega (arith, here)
  | inr f ↦ let later = place_from-within (suc at) name names n (rw f at e) in omega (arith, later)
]

number_or : (o : Option ℕ) (m : ℕ) → ((n : ℕ) → o ≡ Some n → n < m) → unwrap_or o m ≤ m
number_or None m h = omega arith
number_or (Some n) m h = let l = h n refl in omega (arith, l)

number_of-most : (name : List ℕ) (clients : List (List ℕ)) → number_of name clients ≤ length clients
number_of-most name clients =
    number_or (place_from 0 name clients) (length clients)
    (λ n e. let l = place_from-within 0 name clients n e in omega (arith, l))

clients_with-below : (name : List ℕ) (clients : List (List ℕ)) → number_of name clients < length (clients_with name clients)
clients_with-below name clients = elim (cases_lt (number_of name clients) (length clients)) [
  | inl l ↦ rw (lt_true (number_of name clients) (length clients) l) l
  | inr l ↦
      let most = number_of-most name clients in
      let longer = length-append clients (name ∷ []) in
      rw (lt_false (number_of name clients) (length clients) l) (omega (arith, most, longer))
]

clients_with-longer : (name : List ℕ) (clients : List (List ℕ)) → length clients ≤ length (clients_with name clients)
clients_with-longer name clients = elim (cases_lt (number_of name clients) (length clients)) [
  | inl l ↦ rw (lt_true (number_of name clients) (length clients) l) (omega arith)
  | inr l ↦
      let longer = length-append clients (name ∷ []) in
      rw (lt_false (number_of name clients) (length clients) l) (omega (arith, longer))
]

clients_with-few : (name : List ℕ) (clients : List (List ℕ)) → number_of name clients < MAX_CLIENTS → length clients ≤ MAX_CLIENTS
    → length (clients_with name clients) ≤ MAX_CLIENTS
clients_with-few name clients below few = elim (cases_lt (number_of name clients) (length clients)) [
  | inl l ↦ rw (lt_true (number_of name clients) (length clients) l) few
  | inr l ↦
      let longer = length-append clients (name ∷ []) in
      rw (lt_false (number_of name clients) (length clients) l) (omega (arith, longer, below, l))
]

clients_after-longer : (clients : List (List ℕ)) (fields : Fields) → length clients ≤ length (clients_after clients fields)
clients_after-longer clients [] = omega arith
clients_after-longer clients (name ∷ rest) = clients_with-longer name clients

clients_of-longer : (clients : List (List ℕ)) (records : List Fields) → length clients ≤ length (clients_of clients records)
clients_of-longer clients [] = omega arith
clients_of-longer clients (fields ∷ records) =
    let one = clients_after-longer clients fields in
    let more = clients_of-longer (clients_after clients fields) records in
    omega (arith, one, more)

-- ---- one record

client_of-parts : (clients : List (List ℕ)) (number : ℕ) (name : List ℕ) (rest : Fields) (client : ℕ)
    → client_of clients number (name ∷ rest) ≡ Ok client
    → (number_of name clients ≡ client) × (number_of name clients < MAX_CLIENTS)
client_of-parts clients number name rest client e = elim (cases_Bool (is_client name)) [
  | inr f ↦ cc (rw f at e)
  | inl t ↦ elim (cases_lt (number_of name clients) MAX_CLIENTS) [
    | inl l ↦ (cc (rw (t, le_false MAX_CLIENTS (number_of name clients) l) at e), l)
    | inr l ↦ cc (rw (t, le_true MAX_CLIENTS (number_of name clients) l) at e)
  ]
]

client_of-below : (clients : List (List ℕ)) (number : ℕ) (fields : Fields) (client : ℕ)
    → client_of clients number fields ≡ Ok client → client < length (clients_after clients fields)
client_of-below clients number [] client e = cc e
client_of-below clients number (name ∷ rest) client e =
    let parts = client_of-parts clients number name rest client e in
    let below = clients_with-below name clients in
    omega (arith, parts.0, below)

client_of-few : (clients : List (List ℕ)) (number : ℕ) (fields : Fields) (client : ℕ)
    → client_of clients number fields ≡ Ok client → length clients ≤ MAX_CLIENTS
    → length (clients_after clients fields) ≤ MAX_CLIENTS
client_of-few clients number [] client e few = few
client_of-few clients number (name ∷ rest) client e few =
    clients_with-few name clients (client_of-parts clients number name rest client e).1 few

-- a record of a client that there is adds none
pub clients_after-there : (clients : List (List ℕ)) (number : ℕ) (fields : Fields) (client : ℕ)
    → client_of clients number fields ≡ Ok client → client < length clients → clients_after clients fields ≡ clients
clients_after-there clients number [] client e there = refl
clients_after-there clients number (name ∷ rest) client e there =
    let parts = client_of-parts clients number name rest client e in
    let known : number_of name clients < length clients = omega (arith, parts.0, there) in
    rw (lt_true (number_of name clients) (length clients) known) refl

-- a record of another one adds it
pub clients_after-another : (clients : List (List ℕ)) (number : ℕ) (fields rest : Fields) (name : List ℕ) (client : ℕ)
    → fields ≡ name ∷ rest → client_of clients number fields ≡ Ok client → length clients ≤ client
    → clients_after clients fields ≡ clients ++ name ∷ []
clients_after-another clients number fields rest name client same e another =
    let parts = client_of-parts clients number name rest client (rw same at e) in
    let past : length clients ≤ number_of name clients = omega (arith, parts.0, another) in
    rw (same, lt_false (number_of name clients) (length clients) past) refl

with_client-parts : (a : Result ℕ ScriptFault) (b : Result Call ScriptFault) (call : ClientCall) → with_client a b ≡ Ok call
    → (a ≡ Ok call.client) × (b ≡ Ok call.call)
with_client-parts (Err f) b call e = cc e
with_client-parts (Ok a) (Err f) call e = cc e
with_client-parts (Ok a) (Ok b) call e =
    let same : ◌≡◌ {A = ClientCall} (record { client = a; call = b }) call = cc e in
    (ap (λ (x : ClientCall). Ok x.client) same, ap (λ (x : ClientCall). Ok x.call) same)

-- the client and the call of a record
pub call_of-parts : (schema : Columns) (clients : List (List ℕ)) (number : ℕ) (fields : Fields) (call : ClientCall)
    → call_of schema clients number fields ≡ Ok call
    → (client_of clients number fields ≡ Ok call.client) × (asked schema number fields ≡ Ok call.call)
call_of-parts schema clients number fields call e = elim (cases_Bool (list_all is_utf8 fields)) [
  | inl t ↦ with_client-parts (client_of clients number fields) (asked schema number fields) call (rw t at e)
  | inr f ↦ cc (rw f at e)
]

-- ---- all records

pub calls_of-below : (schema : Columns) (clients : List (List ℕ)) (number : ℕ) (records : List Fields) (calls : List ClientCall)
    → calls_of schema clients number records ≡ Ok calls
    → All (λ call. call.client < length (clients_of clients records)) calls
calls_of-below schema clients number [] calls e = let none : calls ≡ [] = cc e in rw none (λ k d l. absurd (omega (arith, l)))
calls_of-below schema clients number (fields ∷ records) calls e =
    let parts =
    then_cons-parts (call_of schema clients number fields)
    (calls_of schema (clients_after clients fields) (suc number) records) calls e in
    let one = client_of-below clients number fields parts.0.client (call_of-parts schema clients number fields parts.0 parts.2).0 in
    let more = clients_of-longer (clients_after clients fields) records in
    rw parts.4 (All-cons (λ (call : ClientCall). call.client < length (clients_of clients (fields ∷ records))) parts.0 parts.1
    (omega (arith, one, more))
    (calls_of-below schema (clients_after clients fields) (suc number) records parts.1 parts.3))

pub calls_of-few : (schema : Columns) (clients : List (List ℕ)) (number : ℕ) (records : List Fields) (calls : List ClientCall)
    → calls_of schema clients number records ≡ Ok calls
    → length clients ≤ MAX_CLIENTS → length (clients_of clients records) ≤ MAX_CLIENTS
calls_of-few schema clients number [] calls e few = few
calls_of-few schema clients number (fields ∷ records) calls e few =
    let parts =
    then_cons-parts (call_of schema clients number fields)
    (calls_of schema (clients_after clients fields) (suc number) records) calls e in
    calls_of-few schema (clients_after clients fields) (suc number) records parts.1 parts.3
    (client_of-few clients number fields parts.0.client (call_of-parts schema clients number fields parts.0 parts.2).0 few)

with_clients-parts : (names clients : List (List ℕ)) (r : Result (List ClientCall) ScriptFault) (calls : List ClientCall)
    → with_clients names r ≡ Ok (clients, calls)
    → (names ≡ clients) × (r ≡ Ok calls)
with_clients-parts names clients (Err f) calls e = cc e
with_clients-parts names clients (Ok read) calls e =
    let same : (names, read) ≡ (clients, calls) = cc e in
    (ap (λ (p : List (List ℕ) × List ClientCall). p.0) same, ap (λ (p : List (List ℕ) × List ClientCall). Ok p.1) same)

-- the clients and the calls of a script
pub script_of-parts : (schema : Columns) (records : List Fields) (clients : List (List ℕ)) (calls : List ClientCall)
    → script_of schema records ≡ Ok (clients, calls)
    → (clients_of [] records ≡ clients) × (calls_of schema [] 1 records ≡ Ok calls)
script_of-parts schema records clients calls e = with_clients-parts (clients_of [] records) clients (calls_of schema [] 1 records) calls e

pub script_of-below : (schema : Columns) (records : List Fields) (clients : List (List ℕ)) (calls : List ClientCall)
    → script_of schema records ≡ Ok (clients, calls)
    → All (λ call. call.client < length clients) calls
script_of-below schema records clients calls e =
    let parts = script_of-parts schema records clients calls e in
    rw parts.0 at (calls_of-below schema [] 1 records calls parts.1)

pub script_of-few : (schema : Columns) (records : List Fields) (clients : List (List ℕ)) (calls : List ClientCall)
    → script_of schema records ≡ Ok (clients, calls) → length clients ≤ MAX_CLIENTS
script_of-few schema records clients calls e =
    let parts = script_of-parts schema records clients calls e in
    rw parts.0 at (calls_of-few schema [] 1 records calls parts.1 (omega arith))
