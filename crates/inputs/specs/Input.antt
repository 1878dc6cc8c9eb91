-- The table that records say: the header's columns, then a row for each record, or the first fault.
use Rattle.std.specs.Prelude.{◌≡◌, ◌<◌, ℕ, suc, ◌+◌, ◌==◌, nat_lt, Bool, cond, ◌&&◌, Option, Some, None, Result, Ok, Err, List, [], ◌∷◌, length, map, find, slice_index_or}
use Rattle.std.specs.List.{list_any}
use Rattle.std.specs.List.Sorted.{IsPermutation}
use Rattle.std.specs.Ordering.{eq_by_cmp}
use Rattle.std.specs.declared.cmp.Ordering.TheVariants.{Less}
use Rattle.std.specs.Str.{is_utf8}
use Rattle.values.specs.Orders.{key_cmp}
use Rattle.values.specs.Shape.{Columns, key_of}
use Rattle.values.specs.declared.limits.TheConstants.{MAX_ROWS, MAX_TEXT_BYTES}
use Rattle.values.specs.declared.value.ColumnType.{ColumnType}
use Rattle.values.specs.declared.value.ColumnType.TheVariants as column
use Rattle.values.specs.declared.value.Value.{Value}
use Rattle.values.specs.declared.value.Value.TheVariants.{Text}
use Rattle.values.specs.declared.row.Row.{Row}
use Rattle.inputs.specs.Cells.{value_of, or_else, then_cons}
use Rattle.inputs.specs.Header.{schema_of}
use Rattle.inputs.specs.Reading.{Fields, AreRecordsOf}
use Rattle.inputs.specs.declared.fault.TableFault.{TableFault}
use Rattle.inputs.specs.declared.fault.TableFault.TheVariants.{NoHeader, BadCount, BadText, BadCell, TextTooLong, RepeatedKey, TooManyRows}

-- ---- rows

-- a row, and the number of the record that says it
pub record Numbered : Type 0 where
  pub number : ℕ
  pub row : Row

-- the cell `at` of the record of this number
abbrev pub cell_of : ColumnType → ℕ → ℕ → List ℕ → Result Value TableFault
cell_of column.Int number at bytes = or_else (BadCell number at) (value_of column.Int bytes)
cell_of column.Bool number at bytes = or_else (BadCell number at) (value_of column.Bool bytes)
cell_of column.Text number at bytes =
    cond (is_utf8 bytes) (cond (nat_lt MAX_TEXT_BYTES (length bytes)) (Err (TextTooLong number at)) (Ok (Text bytes)))
    (Err (BadText number at))

abbrev pub cells_of : ℕ → ℕ → List ColumnType → Fields → Result (List Value) TableFault
cells_of number at [] fields = Ok []
cells_of number at (type ∷ types) [] = Ok []
cells_of number at (type ∷ types) (field ∷ fields) =
    then_cons (cell_of type number at field) (cells_of number (suc at) types fields)

abbrev pub numbered : ℕ → Result (List Value) TableFault → Result Numbered TableFault
numbered number (Err fault) = Err fault
numbered number (Ok cells) = Ok (record { number = number; row = cells })

-- the row of the record of this number, the header being record 1
abbrev pub row_of : List ColumnType → ℕ → Fields → Result Numbered TableFault
row_of types number fields =
    cond (nat_lt (MAX_ROWS + 1) number) (Err TooManyRows)
    (cond (length fields == length types) (numbered number (cells_of number 0 types fields)) (Err (BadCount number)))

abbrev pub numbered_rows : List ColumnType → ℕ → List Fields → Result (List Numbered) TableFault
numbered_rows types number [] = Ok []
numbered_rows types number (fields ∷ records) = then_cons (row_of types number fields) (numbered_rows types (suc number) records)

-- ---- keys

-- whether the two rows have one key
abbrev pub same_key : ℕ → Numbered → Numbered → Bool
same_key key_cols a b = eq_by_cmp key_cmp (key_of key_cols a.row) (key_of key_cols b.row)

-- whether an earlier record has the key of this one
abbrev pub is_repeat : ℕ → List Numbered → Numbered → Bool
is_repeat key_cols rows row = list_any (λ other. nat_lt other.number row.number && same_key key_cols other row) rows

-- the first record whose key an earlier one has
abbrev pub first_repeat : ℕ → List Numbered → Option Numbered
first_repeat key_cols rows = find (is_repeat key_cols rows) rows

abbrev pub unless_repeated : Columns → List Numbered → Option Numbered → Result (Columns × List Row) TableFault
unless_repeated schema rows None = Ok (schema, map (λ row. row.row) rows)
unless_repeated schema rows (Some row) = Err (RepeatedKey row.number)

abbrev pub keyed : Columns → Result (List Numbered) TableFault → Result (Columns × List Row) TableFault
keyed schema (Err fault) = Err fault
keyed schema (Ok rows) = unless_repeated schema rows (first_repeat schema.key_cols rows)

-- each key is above the one before it
abbrev pub IsAscending : ℕ → List Row → Type 0
IsAscending key_cols rows =
    (k : ℕ) (d : Row) → k + 1 < length rows
    → key_cmp (key_of key_cols (slice_index_or rows k d)) (key_of key_cols (slice_index_or rows (k + 1) d)) ≡ Less

-- ---- tables

abbrev pub under : Result Columns TableFault → List Fields → Result (Columns × List Row) TableFault
under (Err fault) records = Err fault
under (Ok schema) records = keyed schema (numbered_rows schema.types 2 records)

-- the schema and the rows, in the order of the records, or the first fault
abbrev pub table_of : List Fields → Result (Columns × List Row) TableFault
table_of [] = Err NoHeader
table_of (header ∷ records) = under (schema_of header) records

-- the text's records say this schema and these rows, each once; the rows stand in ascending key
pub record IsTableOf (text : List ℕ) (schema : Columns) (rows : List Row) : Type 0 where
  pub records : List Fields
  pub read : List Row
  pub are : AreRecordsOf text records
  pub said : table_of records ≡ Ok (schema, read)
  pub each_once : IsPermutation read rows
  pub ascending : IsAscending schema.key_cols rows

-- whatever the text's records are, this is their first fault
abbrev pub IsFaultOf : List ℕ → TableFault → Type 0
IsFaultOf text fault = (records : List Fields) → AreRecordsOf text records → table_of records ≡ Err fault
