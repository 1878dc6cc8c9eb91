use Rattle.std.proofs.Common.{◌≡◌, ◌++◌, List, length, drop, take}
use Rattle.values.specs.declared.row.Row.{Row}
use Rattle.stable.specs.Rows.{first_columns}
use Rattle.merge.specs.Image.{image_rows}
use Rattle.merge.proofs.layers.Layers.table_between.Given as goal

-- the columns of the rows so far, with those of the stretches that are left, are of all rows
abbrev pub invariant-loop-stretch : goal.invariant-loop-stretch
invariant-loop-stretch l =
    (seen : List Row) × (seen ++ l.stretch-iterator ≡ drop l.from (take l.to (image_rows l.self)))
    × (l.columns.items ≡ first_columns l.self.schema.types seen (length l.self.schema.types))
