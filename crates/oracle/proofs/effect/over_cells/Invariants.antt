use Rattle.std.proofs.Common.{◌≡◌}
use Rattle.model.specs.Composition.{over_cells}
use Rattle.oracle.proofs.effect.over_cells.Given as goal

abbrev pub invariant-loop-col : goal.invariant-loop-col
invariant-loop-col l = over_cells l.columns.entries l.col-iterator ≡ over_cells l.fn.cells l.fn.later
