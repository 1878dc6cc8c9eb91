-- Columns that are filled record by record, and their rows in an order.
use Rattle.std.specs.Prelude.{◌≡◌, ℕ, ℤ, pos, ◌+◌, ◌<◌, ◌≤◌, false, None, List, [], ◌∷◌, ◌++◌, Ok, length, map, slice_index_or}
use Rattle.std.specs.List.{range_with_len}
use Rattle.std.specs.Ordering.{int_cmp, is_eq, nat_cmp, ordering_then}
use Rattle.std.specs.declared.cmp.Ordering.{Ordering}
use Rattle.values.specs.Orders.{key_cmp, value_cmp}
use Rattle.values.specs.Shape.{key_of}
use Rattle.values.specs.declared.limits.TheConstants.{MAX_ROWS}
use Rattle.values.specs.declared.row.Row.{Row}
use Rattle.values.specs.declared.value.ColumnType.{ColumnType}
use Rattle.values.specs.declared.value.Value.{Value}
use Rattle.values.specs.declared.value.Value.TheVariants.{Int, Text, Bool as Truth}
use Rattle.blocks.specs.Column.{Column}
use Rattle.stable.specs.Rows.{cell_at, row_at}
use Rattle.inputs.specs.Input.{numbered_rows, row_of}
use Rattle.inputs.specs.Order.{IsLeastRepeat}
use Rattle.inputs.specs.Reading.{AreRecordsOf, Fields}
use Rattle.inputs.specs.declared.ascent.Keyed.{Keyed}
use Rattle.inputs.specs.Input.{Numbered}

-- ---- columns

abbrev pub types_in : List Column → List ColumnType
types_in columns = map (λ c. c.ty) columns

abbrev pub empty_column : ColumnType → Column
empty_column ty = record { ty = ty; values = [] }

-- each value after those of its column; a column past the last value stays as it is
abbrev pub extended : List Column → List Value → List Column
extended [] values = []
extended (c ∷ columns) [] = c ∷ columns
extended (c ∷ columns) (v ∷ values) = record { ty = c.ty; values = c.values ++ v ∷ [] } ∷ extended columns values

-- the record of this number has a cell for each column, and the columns have them now
pub record IsAdded (old : List Column) (number : ℕ) (fields : Fields) (new : List Column) : Type 0 where
  pub cells : Row
  pub said : row_of (types_in old) number fields ≡ Ok (record { number = number; row = cells })
  pub wide : length cells ≡ length old
  pub few : number ≤ MAX_ROWS + 1
  pub filled : new ≡ extended old cells

-- ---- rows

-- the row at a place, with the number of its record: the first row is that of record 2
abbrev pub row_in : List Column → ℕ → Numbered
row_in columns place = record { number = place + 2; row = row_at columns place }

abbrev pub rows_in : ℕ → List Column → List Numbered
rows_in count columns = map (row_in columns) (range_with_len 0 count)

-- the records after the header say the rows that the columns show
pub record AreRead (text : List ℕ) (header : Fields) (types : List ColumnType) (columns : List Column) (count : ℕ) : Type 0 where
  pub records : List Fields
  pub are : AreRecordsOf text (header ∷ records)
  pub said : numbered_rows types 2 records ≡ Ok (rows_in count columns)

-- ---- orders

-- how two places stand, by their rows' keys and then by themselves
abbrev pub place_cmp : ℕ → List Column → ℕ → ℕ → Ordering
place_cmp key_cols columns a b =
    ordering_then (key_cmp (key_of key_cols (row_at columns a)) (key_of key_cols (row_at columns b))) (nat_cmp a b)

-- ---- keys that are one number

abbrev pub number_or_zero : Value → ℤ
number_or_zero (Int number) = number
number_or_zero (Text text) = pos 0
number_or_zero (Truth truth) = pos 0

-- a place, and the number that is its key in this column
abbrev pub keyed_at : Column → ℕ → Keyed
keyed_at c place = record { key = number_or_zero (cell_at place c); place = place }

abbrev pub keyed_cmp : Keyed → Keyed → Ordering
keyed_cmp a b = ordering_then (int_cmp a.key b.key) (nat_cmp a.place b.place)

-- no two neighbours have one number
abbrev pub AreKeysApart : List Keyed → Type 0
AreKeysApart keyed =
    (k : ℕ) (d : Keyed) → k + 1 < length keyed → is_eq (int_cmp (slice_index_or keyed k d).key (slice_index_or keyed (k + 1) d).key) ≡ false

-- how two places stand, by their values in this column and then by themselves
abbrev pub number_cmp : Column → ℕ → ℕ → Ordering
number_cmp c a b = ordering_then (value_cmp (cell_at a c) (cell_at b c)) (nat_cmp a b)

-- no two neighbours have one value in this column
abbrev pub AreApart : Column → List ℕ → Type 0
AreApart c places =
    (k : ℕ) → k + 1 < length places
    → is_eq (value_cmp (cell_at (slice_index_or places k 0) c) (cell_at (slice_index_or places (k + 1) 0) c)) ≡ false

-- no row has the key of the one before it
abbrev pub AreDistinct : ℕ → List Column → List ℕ → Type 0
AreDistinct key_cols columns places = IsLeastRepeat key_cols (map (row_in columns) places) (length places) None
