-- Which tables a payload has parts of.
use Rattle.std.specs.Prelude.{◌≡◌, ◌≤◌, ◌==◌, ◌+◌, ℕ, Bool, false, ◌||◌, List, [], ◌∷◌, map, Result, Ok}
use Rattle.values.specs.Shape.{Columns}
use Rattle.codec.specs.Reading.{◌>>=◌, Span, entries_in, spans_in}
use Rattle.codec.specs.declared.fault.PayloadFault.{PayloadFault}

-- the tables of parts
abbrev pub tables_of : List Span → List ℕ
tables_of spans = map (λ span. span.table) spans

-- the tables of a payload's parts
abbrev pub tables_in : List ℕ → Result (List ℕ) PayloadFault
tables_in bytes = spans_in bytes >>= λ spans. Ok (tables_of spans)

-- whether a table is among others
abbrev pub is_among : ℕ → List ℕ → Bool
is_among table [] = false
is_among table (other ∷ tables) = (other == table) || is_among table tables

-- tables ascend, the first of this number or above
abbrev pub Ascend : ℕ → List ℕ → Type 0
Ascend low [] = Unit {0}
Ascend low (table ∷ tables) = (low ≤ table) × Ascend (table + 1) tables

-- the tables of a payload ascend, and it says no entries of any other
abbrev pub OtherTablesReadNone : Type 0
OtherTablesReadNone =
    (bytes : List ℕ) (tables : List ℕ) → tables_in bytes ≡ Ok tables
    → Ascend 0 tables
    × ((schema : Columns) (table : ℕ) → is_among table tables ≡ false → entries_in schema table bytes ≡ Ok [])
