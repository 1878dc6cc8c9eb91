-- Where the values of a row lie.
use Rattle.std.specs.Prelude.{List}
use Rattle.values.specs.declared.value.Value.{Value}
use Rattle.values.specs.declared.row.Cells.{Cells}
use Rattle.values.specs.declared.row.Cells.TheVariants as cells

-- the values, wherever they lie
abbrev pub cells_of : Cells → List Value
cells_of (cells.Own values) = values.items
cells_of (cells.Shared row) = row
