-- What the forms that a block is kept or lent in say as a column.
use Rattle.std.specs.Prelude.{map}
use Rattle.values.specs.declared.value.ColumnType.TheVariants as column
use Rattle.values.specs.declared.value.Value.TheVariants.{Int, Text, Bool as Truth}
use Rattle.blocks.specs.declared.block.Cells.{Cells}
use Rattle.blocks.specs.declared.block.Cells.TheVariants as kept
use Rattle.blocks.specs.declared.block.BlockValues.{BlockValues}
use Rattle.blocks.specs.declared.block.BlockValues.TheVariants as lent
use Rattle.blocks.specs.Column.{Column}

-- the column that is kept
abbrev pub column_of : Cells → Column
column_of (kept.Ints xs) = record { ty = column.Int; values = map Int xs }
column_of (kept.Texts ts) = record { ty = column.Text; values = map Text ts }
column_of (kept.Truths bs) = record { ty = column.Bool; values = map Truth bs }

-- the column that is lent
abbrev pub column_of_values : BlockValues → Column
column_of_values (lent.Ints xs) = record { ty = column.Int; values = map Int xs.now }
column_of_values (lent.Texts ts) = record { ty = column.Text; values = map Text ts.now }
column_of_values (lent.Truths bs) = record { ty = column.Bool; values = map Truth bs.now }
