-- Which columns make a schema, which rows, keys and cells fit one, and the first fault of each that doesn't.
use Rattle.std.specs.Prelude.{◌≡◌, ◌≤◌, ℕ, suc, ◌==◌, nat_eq, nat_lt, Bool, true, false, cond, ◌||◌, Option, Some, None, Result, Ok, Err, List, [], ◌∷◌, length, take, map, find, slice_get, unwrap_or, is_none, String, string_bytes}
use Rattle.std.specs.List.{list_any, range_with_len}
use Rattle.std.specs.Option.{option_map}
use Rattle.std.specs.Cmp.Lexicographic.{pointwise}
use Rattle.std.specs.declared.alloc.Global.{Global}
use Rattle.values.specs.declared.value.ColumnType.{ColumnType}
use Rattle.values.specs.declared.value.ColumnType.TheVariants as column
use Rattle.values.specs.declared.value.Value.{Value}
use Rattle.values.specs.declared.value.Value.TheVariants.{Int, Text, Bool as Truth}
use Rattle.values.specs.declared.limits.TheConstants.{MAX_COLUMNS, MAX_KEY_COLUMNS, MAX_TEXT_BYTES}
use Rattle.values.specs.declared.fault.SchemaFault.{SchemaFault}
use Rattle.values.specs.declared.fault.SchemaFault.TheVariants.{NoColumns, TooManyColumns, BadKeyCount, RepeatedName}
use Rattle.values.specs.declared.fault.ShapeFault.{ShapeFault}
use Rattle.values.specs.declared.fault.ShapeFault.TheVariants.{WrongCount, WrongType, TextTooLong, NoSuchColumn, KeyColumn}

-- a schema: the columns' names and types, and how many of them are the key
pub record Columns : Type 0 where
  pub names : List (List ℕ)
  pub types : List ColumnType
  pub key_cols : ℕ

-- ---- columns

-- a column as it is handed over: its name and its type
abbrev pub Column : Type 0
Column = String Global × ColumnType

-- the names of columns
abbrev pub names_of : List Column → List (List ℕ)
names_of cols = map (λ col. string_bytes col.0) cols

-- the types of columns
abbrev pub types_of : List Column → List ColumnType
types_of cols = map (λ col. col.1) cols

-- the schema of these columns, the first `key_cols` of which are its key
abbrev pub columns_of : List Column → ℕ → Columns
columns_of cols key_cols = record { names = names_of cols; types = types_of cols; key_cols = key_cols }

-- the name of a column
abbrev pub name_at : List (List ℕ) → ℕ → List ℕ
name_at names col = unwrap_or (slice_get names col) []

-- whether a name is one of these
abbrev pub is_among : List ℕ → List (List ℕ) → Bool
is_among name names = list_any (λ other. pointwise nat_eq other name) names

-- whether an earlier column has the name of this one
abbrev pub stands_before : List (List ℕ) → ℕ → Bool
stands_before names col = is_among (name_at names col) (take col names)

-- the first column whose name an earlier one has
abbrev pub repeated_name : List (List ℕ) → Option ℕ
repeated_name names = find (stands_before names) (range_with_len 0 (length names))

-- whether so many of the columns are no key
abbrev pub is_bad_key_count : ℕ → ℕ → Bool
is_bad_key_count width key_cols = (key_cols == 0) || nat_lt MAX_KEY_COLUMNS key_cols || nat_lt width key_cols

-- the first fault of columns as a schema
abbrev pub schema_fault : Columns → Option SchemaFault
schema_fault columns =
    cond (length columns.names == 0) (Some NoColumns)
    (cond (nat_lt MAX_COLUMNS (length columns.names)) (Some TooManyColumns)
    (cond (is_bad_key_count (length columns.names) columns.key_cols) (Some BadKeyCount)
    (option_map RepeatedName (repeated_name columns.names))))

-- what each schema keeps
pub record IsSchema (columns : Columns) : Type 0 where
  pub named : length columns.names ≡ length columns.types
  pub narrow : length columns.types ≤ MAX_COLUMNS
  pub keyed : 1 ≤ columns.key_cols
  pub short_key : columns.key_cols ≤ MAX_KEY_COLUMNS
  pub key_within : columns.key_cols ≤ length columns.types
  pub distinct : repeated_name columns.names ≡ None

-- ---- rows, keys and cells

abbrev pub has_type : ColumnType → Value → Bool
has_type column.Int (Int x) = true
has_type column.Text (Text x) = true
has_type column.Bool (Truth x) = true
has_type other value = false

-- whether a value is a text, which alone takes memory
abbrev pub is_text : Value → Bool
is_text (Text bytes) = true
is_text (Int x) = false
is_text (Truth x) = false

-- whether a value is a text of more than 4,096 bytes
abbrev pub is_too_long : Value → Bool
is_too_long (Text bytes) = nat_lt MAX_TEXT_BYTES (length bytes)
is_too_long (Int x) = false
is_too_long (Truth x) = false

-- the fault of a value in a column
abbrev pub value_fault : ColumnType → ℕ → Value → Option ShapeFault
value_fault type col value =
    cond (has_type type value) (cond (is_too_long value) (Some (TextTooLong col)) None) (Some (WrongType col))

-- the first fault, or else the other
abbrev pub or_fault : Option ShapeFault → Option ShapeFault → Option ShapeFault
or_fault (Some fault) other = Some fault
or_fault None other = other

-- the first fault of values in the columns from `col` on
abbrev pub values_fault : ℕ → List ColumnType → List Value → Option ShapeFault
values_fault col [] values = None
values_fault col (type ∷ types) [] = None
values_fault col (type ∷ types) (value ∷ values) = or_fault (value_fault type col value) (values_fault (suc col) types values)

-- the fault of a list of values as a list of these types
abbrev pub list_fault : List ColumnType → List Value → Option ShapeFault
list_fault types values = cond (length values == length types) (values_fault 0 types values) (Some WrongCount)

abbrev pub row_fault : Columns → List Value → Option ShapeFault
row_fault columns row = list_fault columns.types row

abbrev pub key_fault : Columns → List Value → Option ShapeFault
key_fault columns key = list_fault (take columns.key_cols columns.types) key

-- the fault of a value that a cell is to be set to
abbrev pub cell_fault_at : Option ColumnType → ℕ → ℕ → Value → Option ShapeFault
cell_fault_at None key_cols col value = Some NoSuchColumn
cell_fault_at (Some type) key_cols col value = cond (nat_lt col key_cols) (Some KeyColumn) (value_fault type col value)

abbrev pub cell_fault : Columns → ℕ → Value → Option ShapeFault
cell_fault columns col value = cell_fault_at (slice_get columns.types col) columns.key_cols col value

-- the key of a row: its first `key_cols` values
abbrev pub key_of : ℕ → List Value → List Value
key_of key_cols row = take key_cols row

-- whether a row fits the schema
abbrev pub fits_schema : Columns → List Value → Bool
fits_schema schema row = is_none (row_fault schema row)

-- whether a key fits the schema
abbrev pub key_fits_schema : Columns → List Value → Bool
key_fits_schema schema key = is_none (key_fault schema key)

-- whether a cell may be set to the value: a column outside the key, of that type
abbrev pub cell_fits_schema : Columns → ℕ → Value → Bool
cell_fits_schema schema col value = is_none (cell_fault schema col value)

-- the answer of a check
abbrev pub answer_of : Option ShapeFault → Result (Unit {0}) ShapeFault
answer_of None = Ok tt
answer_of (Some fault) = Err fault
