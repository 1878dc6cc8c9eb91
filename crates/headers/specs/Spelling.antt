-- The header of a table's text: one record, with a cell for each column.
use Rattle.std.specs.Prelude.{◌≡◌, ◌<◌, ℕ, suc, ◌==◌, nat_lt, nat_le, Bool, false, not, ◌&&◌, if◌then◌else◌, List, [], ◌∷◌, ◌++◌, length, get_or, is_none, position}
use Rattle.std.specs.Str.{is_utf8}
use Rattle.csv.specs.Writing.{default_writer, escaped}
use Rattle.values.specs.Shape.{Columns}
use Rattle.values.specs.declared.limits.TheConstants.{MAX_NAME_BYTES}
use Rattle.values.specs.declared.value.ColumnType.{ColumnType}
use Rattle.inputs.specs.Header.{is_colon, kind_word}
use Rattle.headers.specs.declared.fault.HeaderFault.{HeaderFault}
use Rattle.headers.specs.declared.fault.HeaderFault.TheVariants.{BadName, NoMemory}

-- whether a header says a name: 1 to 64 bytes of UTF-8 without a colon
abbrev pub is_name : List ℕ → Bool
is_name name =
    not (length name == 0) && (nat_le (length name) MAX_NAME_BYTES && (is_utf8 name && is_none (position is_colon name)))

-- a byte between quotes: twice where it is one
abbrev pub escaped_byte : ℕ → List ℕ
escaped_byte b = if b == 34 then b ∷ b ∷ [] else b ∷ []

-- the cell of a column: its name, a colon, its type, and whether it is one of the key
abbrev pub cell_text : List ℕ → ColumnType → Bool → List ℕ
cell_text name type is_key = name ++ 58 ∷ kind_word type is_key

-- a cell between quotes, of which each in it stands twice
abbrev pub quoted_text : List ℕ → List ℕ
quoted_text cell = 34 ∷ (escaped default_writer cell ++ 34 ∷ [])

abbrev pub comma_before : ℕ → List ℕ
comma_before col = if col == 0 then [] else 44 ∷ []

-- the cells of the columns from `col` on, of which the first `key_cols` of all are the key, and the end of the line
unfoldable pub cells_text : ℕ → ℕ → List (List ℕ) → List ColumnType → List ℕ
cells_text key_cols col [] types = 10 ∷ []
cells_text key_cols col (name ∷ names) [] = 10 ∷ []
cells_text key_cols col (name ∷ names) (type ∷ types) =
    (comma_before col ++ quoted_text (cell_text name type (nat_lt col key_cols))) ++ cells_text key_cols (suc col) names types

-- the header of a schema
abbrev pub header_text : Columns → List ℕ
header_text schema = cells_text schema.key_cols 0 schema.names schema.types

-- a schema isn't spelt, and this is why: a column's name is one that no header says
abbrev pub IsUnspelt : Columns → HeaderFault → Type 0
IsUnspelt schema (BadName col) = (col < length schema.names) × (is_name (get_or schema.names col []) ≡ false)
IsUnspelt schema NoMemory = Unit {0}
