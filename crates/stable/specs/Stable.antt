-- A table in key order, as its schema and its rows.
use Rattle.std.specs.Prelude.{◌≡◌, ℕ, ℤ, suc, ◌≤◌, nat_lt, Bool, true, false, cond, Option, Some, None, List, [], ◌∷◌, length, get_or}
use Rattle.std.specs.Ordering.{is_lt, eq_by_cmp}
use Rattle.values.specs.Orders.{key_cmp}
use Rattle.values.specs.Shape.{Columns, key_of, row_fault}
use Rattle.values.specs.declared.limits.TheConstants.{MAX_ROWS}
use Rattle.values.specs.declared.fault.ShapeFault.{ShapeFault}
use Rattle.values.specs.declared.row.Row.{Row}
use Rattle.values.specs.declared.row.Key.{Key}
use Rattle.values.specs.declared.value.ColumnType.TheVariants as column
use Rattle.values.specs.declared.value.Value.TheVariants.{Int}
use Rattle.model.specs.Table.{Table, table_of, IsTable}
use Rattle.stable.specs.declared.fault.BuildFault.{BuildFault}
use Rattle.stable.specs.declared.fault.BuildFault.TheVariants.{TooManyRows, Shape, NotAscending}

pub record Stable : Type 0 where
  pub schema : Columns
  -- in ascending key
  pub rows : List Row

-- the rows under their keys
abbrev pub table_in : Stable → Table
table_in s = table_of s.schema.key_cols s.rows

-- what each stable table keeps
pub record IsStable (s : Stable) : Type 0 where
  pub table : IsTable s.schema (table_in s)
  pub few : length s.rows ≤ MAX_ROWS

-- whether this is a row of the key
abbrev pub holds_key : ℕ → Key → Option Row → Bool
holds_key key_cols key None = false
holds_key key_cols key (Some row) = eq_by_cmp key_cmp (key_of key_cols row) key

-- whether a key is this number, in a table whose key is one column of numbers
pub record IsNumberKey (schema : Columns) (key : Key) (number : ℤ) : Type 0 where
  pub one : schema.key_cols ≡ 1
  pub there : 1 ≤ length schema.types
  pub typed : get_or schema.types 0 column.Int ≡ column.Int
  pub is : key ≡ Int number ∷ []

-- ---- the first fault of rows as a table

-- whether the row is above the one before it, where there is one
abbrev pub ascends : ℕ → Option Row → Row → Bool
ascends key_cols None row = true
ascends key_cols (Some before) row = is_lt (key_cmp (key_of key_cols before) (key_of key_cols row))

-- the fault of row i by its shape and by whether it ascends
abbrev pub shape_or_order : ℕ → Bool → Option ShapeFault → Option BuildFault
shape_or_order i above (Some fault) = Some (Shape i fault)
shape_or_order i true None = None
shape_or_order i false None = Some (NotAscending i)

abbrev pub row_fault_at : Columns → ℕ → Option Row → Row → Option BuildFault
row_fault_at schema i before row = shape_or_order i (ascends schema.key_cols before row) (row_fault schema row)

abbrev pub or_fault : Option BuildFault → Option BuildFault → Option BuildFault
or_fault (Some fault) other = Some fault
or_fault None other = other

-- row by row from row i on, the shape before the order
abbrev pub rows_fault : Columns → ℕ → Option Row → List Row → Option BuildFault
rows_fault schema i before [] = None
rows_fault schema i before (row ∷ rows) = or_fault (row_fault_at schema i before row) (rows_fault schema (suc i) (Some row) rows)

-- too many rows come before all else
abbrev pub build_fault : Columns → List Row → Option BuildFault
build_fault schema rows = cond (nat_lt MAX_ROWS (length rows)) (Some TooManyRows) (rows_fault schema 0 None rows)
