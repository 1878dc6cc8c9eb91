-- What a header cell names, and what is wrong with one that names no column.
use Rattle.std.specs.Prelude.{ℕ, ◌+◌, ◌++◌, ◌==◌, nat_lt, Bool, false, cond, Option, None, Some, List, [], ◌∷◌, length, take, drop}
use Rattle.std.specs.Prelude.{position, codes, option_map, slice_get}
use Rattle.std.specs.Option.{option_and_then}
use Rattle.std.specs.Fmt.{decimal}
use Rattle.std.specs.Str.{is_utf8}
use Rattle.csv.specs.Records.{field_at}
use Rattle.values.specs.declared.limits.TheConstants.{MAX_NAME_BYTES}
use Rattle.values.specs.declared.value.ColumnType.{ColumnType}
use Rattle.inputs.specs.Header.{heading_kind, is_colon}
use Rattle.inputs.specs.Reading.{Fields}
use Rattle.sentences.specs.Quoting.{quoted}
use Rattle.sentences.specs.declared.quoting.TheConstants.{ROOM}

-- what is before the first colon, or all where there is none
abbrev pub before_colon : List ℕ → Option ℕ → List ℕ
before_colon cell None = cell
before_colon cell (Some colon) = take colon cell

-- the column's name: the whole cell where the types are given beside the text
abbrev pub name_in : List ColumnType → List ℕ → List ℕ
name_in [] cell = before_colon cell (position is_colon cell)
name_in (type ∷ types) cell = cell

abbrev pub kind_behind : List ℕ → Option ℕ → Option (ColumnType × Bool)
kind_behind cell None = None
kind_behind cell (Some colon) = heading_kind (drop (colon + 1) cell)

-- the type that a header cell names, and whether the column is one of the key
abbrev pub kind_in : List ℕ → Option (ColumnType × Bool)
kind_in cell = kind_behind cell (position is_colon cell)

abbrev pub is_key_kind : Option (ColumnType × Bool) → Bool
is_key_kind None = false
is_key_kind (Some kind) = kind.1

-- whether a header cell names a key column
abbrev pub is_key_heading : List ℕ → Bool
is_key_heading cell = is_key_kind (kind_in cell)

-- the type of a column, which its header cell names, or which is given
abbrev pub type_of : List ColumnType → Fields → ℕ → Option ColumnType
type_of [] header col = option_map (λ kind. kind.0) (option_and_then kind_in (field_at header col))
type_of (type ∷ types) header col = slice_get (type ∷ types) col

-- what is wrong with a cell of this name that has a type: the first fault of the name, or that it is a key column too late
abbrev pub name_fault : List ℕ → List ℕ → List ℕ
name_fault cell name =
    cond (length name == 0) (quoted ROOM cell ++ codes " has no name before the colon")
    (cond (nat_lt MAX_NAME_BYTES (length name))
    (codes "the name " ++ (quoted ROOM name ++ (codes " has " ++ (decimal (length name) ++ codes " bytes, and 64 are the most"))))
    (cond (is_utf8 name) (quoted ROOM cell ++ codes " is a key column after one that is not: the key columns come first")
    (codes "the name " ++ (quoted ROOM name ++ codes " is not UTF-8"))))

abbrev pub kind_fault : List ℕ → Option (ColumnType × Bool) → List ℕ
kind_fault cell None =
    quoted ROOM cell ++ codes " is not a name, a colon and a type (int, text or bool, with :key behind it for a key column)"
kind_fault cell (Some kind) = name_fault cell (before_colon cell (position is_colon cell))

-- what is wrong with a header cell
abbrev pub heading_fault : List ColumnType → List ℕ → List ℕ
heading_fault [] cell = kind_fault cell (kind_in cell)
heading_fault (type ∷ types) cell = quoted ROOM cell ++ codes " is not a column's name: 1 to 64 bytes of UTF-8 without a colon are wanted"
