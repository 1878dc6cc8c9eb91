-- Columns as C gives them: numbers, truths a byte each, and texts by the bytes of all of them and where each begins and ends.
use Rattle.std.specs.Prelude.{◌≡◌, ℕ, ℤ, ◌+◌, ◌-◌, ◌≤◌, ◌<◌, ◌==◌, nat_lt, true, false, cond, ◌⊎◌, Option, Some, None, List, [], length, map, take, drop, get_or, slice_get}
use Rattle.std.specs.List.{range_with_len}
use Rattle.std.specs.Option.{option_map}
use Rattle.std.specs.Str.{is_utf8}
use Rattle.values.specs.declared.value.ColumnType.{ColumnType}
use Rattle.values.specs.declared.value.ColumnType.TheVariants as column
use Rattle.values.specs.declared.value.Value.{Value}
use Rattle.values.specs.declared.value.Value.TheVariants.{Int, Text, Bool as Truth}
use Rattle.values.specs.Shape.{Columns}
use Rattle.values.specs.declared.limits.TheConstants.{MAX_TEXT_BYTES, MAX_ROWS}
use Rattle.blocks.specs.Column.{Column}
use Rattle.stable.specs.Rows.{rows_of}
use Rattle.stable.specs.Stable.{Stable, build_fault}
use Rattle.stable.specs.declared.fault.BuildFault.{BuildFault}
use Rattle.stable.specs.declared.fault.BuildFault.TheVariants.{TooManyRows}

-- what is given of a column: numbers, or bytes, and for texts where each begins and the last one ends
pub record Given : Type 0 where
  pub numbers : List ℤ
  pub offsets : List ℕ
  pub bytes : List ℕ

-- ---- one value

-- the truth of a byte
abbrev pub truth_of : Option ℕ → Option Value
truth_of None = None
truth_of (Some byte) = cond (byte == 0) (Some (Truth false)) (cond (byte == 1) (Some (Truth true)) None)

-- the text of bytes: they are UTF-8, and at most 4,096
abbrev pub text_of : List ℕ → Option Value
text_of bytes = cond (nat_lt MAX_TEXT_BYTES (length bytes)) None (cond (is_utf8 bytes) (Some (Text bytes)) None)

-- the text between two offsets, which stand in order and within the bytes
abbrev pub text_between : List ℕ → Option ℕ → Option ℕ → Option Value
text_between bytes None end = None
text_between bytes (Some begin) None = None
text_between bytes (Some begin) (Some end) =
    cond (nat_lt end begin) None (cond (nat_lt (length bytes) end) None (text_of (take (end - begin) (drop begin bytes))))

-- the value of a type that is given for a row, if there is one
abbrev pub value_at : ColumnType → Given → ℕ → Option Value
value_at column.Int given row = option_map Int (slice_get given.numbers row)
value_at column.Bool given row = truth_of (slice_get given.bytes row)
value_at column.Text given row = text_between given.bytes (slice_get given.offsets row) (slice_get given.offsets (row + 1))

-- ---- all values

-- how many values are given: one for each number or byte, and for texts one between each two offsets
abbrev pub count_of : ColumnType → Given → ℕ
count_of column.Int given = length given.numbers
count_of column.Bool given = length given.bytes
count_of column.Text given = length given.offsets - 1

-- these are the values of the first rows
abbrev pub AreFirst : ColumnType → Given → ℕ → List Value → Type 0
AreFirst ty given rows values = map Some values ≡ map (value_at ty given) (range_with_len 0 rows)

-- a column has a value for each of so many rows, those that are given, and no more are
pub record IsFilled (ty : ColumnType) (given : Given) (rows : ℕ) (made : Column) : Type 0 where
  pub typed : made.ty ≡ ty
  pub counted : length made.values ≡ rows
  pub values_are : AreFirst ty given rows made.values
  pub none_left : count_of ty given ≤ rows

-- the first row for which no value is given, or the row after the last where there is one more
pub record IsUnfilled (ty : ColumnType) (given : Given) (rows row : ℕ) : Type 0 where
  pub before : List Value
  pub first : AreFirst ty given row before
  pub none : ((row < rows) × (value_at ty given row ≡ None)) ⊎ ((row ≡ rows) × (rows < count_of ty given))

-- ---- all columns

-- what is given of all columns
pub record AllGiven : Type 0 where
  pub numbers : List (List ℤ)
  pub offsets : List (List ℕ)
  pub bytes : List (List ℕ)

-- what is given of one column, nothing past the last
abbrev pub given_at : AllGiven → ℕ → Given
given_at all col = record { numbers = get_or all.numbers col []; offsets = get_or all.offsets col []; bytes = get_or all.bytes col [] }

-- a column of each of these types, each with the values that are given for so many rows
pub record AreFilled (types : List ColumnType) (all : AllGiven) (rows : ℕ) (columns : List Column) : Type 0 where
  pub typed : map (λ c. c.ty) columns ≡ types
  pub filled : (col : ℕ) (d : Column) → col < length columns
      → IsFilled (get_or types col column.Int) (given_at all col) rows (get_or columns col d)

-- the table of these columns, so many rows under a schema
pub record IsTableGiven (schema : Columns) (all : AllGiven) (rows : ℕ) (table : Stable) : Type 0 where
  pub columns : List Column
  pub filled : AreFilled schema.types all rows columns
  pub table_is : table ≡ record { schema = schema; rows = rows_of rows columns }

-- why they make no table: more rows are claimed than a table has, or their rows have this fault
pub record IsNoTable (schema : Columns) (all : AllGiven) (rows : ℕ) (fault : BuildFault) : Type 0 where
  pub columns : List Column
  pub why : ((fault ≡ TooManyRows) × (MAX_ROWS < rows))
      ⊎ (AreFilled schema.types all rows columns × (build_fault schema (rows_of rows columns) ≡ Some fault))
