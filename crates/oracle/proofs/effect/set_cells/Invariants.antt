use Rattle.std.proofs.Common.{◌≡◌}
use Rattle.model.specs.Effects.{set_cells}
use Rattle.oracle.proofs.effect.set_cells.Given as goal

abbrev pub invariant-loop-col : goal.invariant-loop-col
invariant-loop-col l = set_cells l.col-iterator l.values.items ≡ set_cells l.fn.cells l.fn.row
