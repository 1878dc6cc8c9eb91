-- The values of one column, stretch by stretch.
use Rattle.std.specs.Prelude.{◌≡◌, ℕ, ◌<◌, Option, MatchOption, Some, List, [], ◌∷◌, ◌++◌, length, map, slice_get}
use Rattle.values.specs.Lent.{value_of}
use Rattle.values.specs.declared.row.Row.{Row}
use Rattle.values.specs.declared.value.Value.{Value}
use Rattle.merge.specs.Stretches.{stretch_rows, IsStableStretch}
use Rattle.merge.specs.declared.stretch.Stretch.TheVariants.{Stable as Together}
use Rattle.merge.specs.declared.column_stretch.ColumnStretch.{ColumnStretch}
use Rattle.merge.specs.declared.column_stretch.ColumnStretch.TheVariants.{Stable, Value as One}

-- the first row, if there is one, has a value in the column
abbrev pub HasFirst : ℕ → List Row → Type 0
HasFirst col [] = Unit {0}
HasFirst col (row ∷ rows) = col < length row

-- the values of rows in one column, and none where a row ends before it
abbrev pub column_cells : ℕ → List Row → List (Option Value)
column_cells col rows = map (λ row. slice_get row col) rows

-- the values of a stretch of the column
abbrev pub stretch_cells : ℕ → ColumnStretch → List (Option Value)
stretch_cells col (Stable stretch) = column_cells col (stretch_rows (Together stretch))
stretch_cells col (One value) = Some (value_of value) ∷ []

-- how many there are
abbrev pub value_count : ColumnStretch → ℕ
value_count (Stable stretch) = stretch.len
value_count (One value) = 1

-- at least one, and stable rows lie in their table
abbrev pub IsColumnStretch : ColumnStretch → Type 0
IsColumnStretch (Stable stretch) = IsStableStretch stretch
IsColumnStretch (One value) = Unit {0}

-- the first rows are passed, and the stretch has their values in the column
pub record PassesColumn (col : ℕ) (old : List Row) (values : ColumnStretch) (new : List Row) : Type 0 where
  pub passed : List Row
  pub rows : old ≡ passed ++ new
  pub cells : column_cells col passed ≡ stretch_cells col values
  pub is : IsColumnStretch values

-- the next row is passed
pub record PassesRow (old new : List Row) : Type 0 where
  pub row : Row
  pub rows : old ≡ row ∷ new

-- what a call that hands out the next stretch gives: one while rows are left
abbrev pub YieldsColumn : ℕ → List Row → Option ColumnStretch → List Row → Type 0
YieldsColumn col old result new = MatchOption result ((old ≡ []) × (new ≡ [])) (λ values. PassesColumn col old values new)
