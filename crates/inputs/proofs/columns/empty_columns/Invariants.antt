use Rattle.std.proofs.Common.{◌≡◌, map, take}
use Rattle.inputs.specs.Filling.{empty_column}
use Rattle.inputs.proofs.columns.empty_columns.Given as goal

abbrev pub invariant-loop-column : goal.invariant-loop-column
invariant-loop-column l = l.columns.items ≡ map empty_column (take l.column-index l.types)
