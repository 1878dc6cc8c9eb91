-- Which values of rows may be put into a column.
use Rattle.std.specs.Prelude.{ℕ, ◌<◌, false, length, get_or, IsTrue, IsFalse}
use Rattle.values.specs.Shape.{has_type, is_too_long}
use Rattle.values.specs.declared.row.Row.{Row}
use Rattle.values.specs.declared.value.ColumnType.{ColumnType}
use Rattle.values.specs.declared.value.Value.TheVariants.{Bool as Truth}

-- the row has a value in the column, of the type, and no text of more than 4,096 bytes
pub record StandsAt (ty : ColumnType) (col : ℕ) (row : Row) : Type 0 where
  pub wide : col < length row
  pub typed : IsTrue (has_type ty (get_or row col (Truth false)))
  pub short : IsFalse (is_too_long (get_or row col (Truth false)))
