-- The clients of a script, in order of first appearance.
use Rattle.std.specs.Prelude.{ℕ, ◌==◌, nat_lt, nat_le, Bool, false, cond, ◌||◌, Result, Ok, Err, List, [], ◌∷◌, ◌++◌, length, unwrap_or}
use Rattle.std.specs.Char.{is_ascii_alphanumeric}
use Rattle.std.specs.List.{list_all}
use Rattle.inputs.specs.Cells.{place_from}
use Rattle.inputs.specs.Reading.{Fields}
use Rattle.inputs.specs.declared.fault.ScriptFault.{ScriptFault}
use Rattle.inputs.specs.declared.fault.ScriptFault.TheVariants.{BadClient, TooManyClients}
use Rattle.values.specs.declared.limits.TheConstants.{MAX_CLIENT_BYTES, MAX_CLIENTS}

abbrev pub is_client_byte : ℕ → Bool
is_client_byte c = is_ascii_alphanumeric c || c == 45 || c == 95

-- whether the bytes name a client: 1 to 32 letters, digits, `-` or `_`
abbrev pub is_client : List ℕ → Bool
is_client name =
    cond (length name == 0) false (cond (nat_lt MAX_CLIENT_BYTES (length name)) false (list_all is_client_byte name))

-- the number of the client of this name, a new one after all that there are
abbrev pub number_of : List ℕ → List (List ℕ) → ℕ
number_of name clients = unwrap_or (place_from 0 name clients) (length clients)

-- the clients after this name
abbrev pub clients_with : List ℕ → List (List ℕ) → List (List ℕ)
clients_with name clients = cond (nat_lt (number_of name clients) (length clients)) clients (clients ++ name ∷ [])

abbrev pub clients_after : List (List ℕ) → Fields → List (List ℕ)
clients_after clients [] = clients
clients_after clients (name ∷ rest) = clients_with name clients

-- the clients of the records, in order of first appearance
abbrev pub clients_of : List (List ℕ) → List Fields → List (List ℕ)
clients_of clients [] = clients
clients_of clients (fields ∷ records) = clients_of (clients_after clients fields) records

-- the client that a record names
abbrev pub client_of : List (List ℕ) → ℕ → Fields → Result ℕ ScriptFault
client_of clients number [] = Err (BadClient number)
client_of clients number (name ∷ rest) =
    cond (is_client name)
    (cond (nat_le MAX_CLIENTS (number_of name clients)) (Err (TooManyClients number)) (Ok (number_of name clients)))
    (Err (BadClient number))
