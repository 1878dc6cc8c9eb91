use Rattle.std.proofs.Common.{◌≡◌, drop}
use Rattle.inputs.specs.Cells.{place_from}
use Rattle.inputs.proofs.arguments.find_column.Given as goal

-- no column so far has the name
abbrev pub invariant-loop-col : goal.invariant-loop-col
invariant-loop-col l = place_from 0 l.name l.schema.names ≡ place_from l.col l.name (drop l.col l.schema.names)
