-- The rows that columns show, and the columns that rows fill.
use Rattle.std.specs.Prelude.{◌≡◌, ℕ, ◌<◌, false, Option, List, [], ◌∷◌, length, map, get_or, slice_get}
use Rattle.std.specs.List.{All, range_with_len}
use Rattle.values.specs.Shape.{Columns}
use Rattle.values.specs.declared.row.Row.{Row}
use Rattle.values.specs.declared.value.ColumnType.{ColumnType}
use Rattle.values.specs.declared.value.ColumnType.TheVariants as column
use Rattle.values.specs.declared.value.Value.{Value}
use Rattle.values.specs.declared.value.Value.TheVariants.{Bool as Truth}
use Rattle.blocks.specs.Column.{Column}
use Rattle.stable.specs.Column.{all_may_stand}
use Rattle.stable.specs.Stable.{Stable, IsStable}

-- ---- rows

-- the value number `i` of a column; past the last there is none, and it says false
abbrev pub cell_at : ℕ → Column → Value
cell_at i c = get_or c.values i (Truth false)

-- the values of a column at these places
abbrev pub gathered : List ℕ → Column → Column
gathered places c = record { ty = c.ty; values = map (λ place. cell_at place c) places }

-- the row number `i`: that value of each column
abbrev pub row_at : List Column → ℕ → Row
row_at columns i = map (cell_at i) columns

-- so many rows
abbrev pub rows_of : ℕ → List Column → List Row
rows_of count columns = map (row_at columns) (range_with_len 0 count)

-- the value of a table at a place
abbrev pub cell_of : Stable → ℕ → ℕ → Option Value
cell_of s sid col = slice_get (get_or s.rows sid []) col

-- ---- columns

-- the values of rows in one column
abbrev pub column_values : ℕ → List Row → List Value
column_values col rows = map (λ row. get_or row col (Truth false)) rows

-- one column of rows
abbrev pub column_at : List ColumnType → List Row → ℕ → Column
column_at types rows col = record { ty = get_or types col column.Int; values = column_values col rows }

-- the first columns of rows
abbrev pub first_columns : List ColumnType → List Row → ℕ → List Column
first_columns types rows n = map (column_at types rows) (range_with_len 0 n)

-- ---- columns that may become a table

-- how many values the first of them has
abbrev pub row_count : List Column → ℕ
row_count [] = 0
row_count (c ∷ columns) = length c.values

-- whether each has as many as the first
abbrev pub AreEven : List Column → Type 0
AreEven columns = (col : ℕ) (d : Column) → col < length columns → length (get_or columns col d).values ≡ row_count columns

-- whether each has a value of this number
abbrev pub AreFilled : ℕ → List Column → Type 0
AreFilled i columns = (col : ℕ) (d : Column) → col < length columns → i < length (get_or columns col d).values

-- columns of a schema, each with so many values that may stand there
pub record AreColumns (schema : Columns) (count : ℕ) (columns : List Column) : Type 0 where
  pub typed : map (λ c. c.ty) columns ≡ schema.types
  pub filled : (col : ℕ) (d : Column) → col < length columns → length (get_or columns col d).values ≡ count
  pub fit : All (λ c. all_may_stand c.ty c.values) columns

-- what each table keeps: the schema's columns, so many values in each, and that the rows they show are a table
pub record IsKept (schema : Columns) (count : ℕ) (columns : List Column) : Type 0 where
  pub typed : map (λ c. c.ty) columns ≡ schema.types
  pub filled : (col : ℕ) (d : Column) → col < length columns → length (get_or columns col d).values ≡ count
  pub stable : IsStable (record { schema = schema; rows = rows_of count columns })
