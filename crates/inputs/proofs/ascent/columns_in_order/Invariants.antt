use Rattle.std.proofs.Common.{◌≡◌, map, take}
use Rattle.stable.specs.Rows.{gathered}
use Rattle.inputs.proofs.ascent.columns_in_order.Given as goal

abbrev pub invariant-loop-column : goal.invariant-loop-column
invariant-loop-column l = l.sorted.items ≡ map (gathered l.places) (take l.column-index l.columns)
