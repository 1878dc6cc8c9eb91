use Rattle.std.proofs.Common.{◌-◌}
use Rattle.values.specs.Lent.{value_of}
use Rattle.stable.specs.Bounds.{IsBracket}
use Rattle.stable.proofs.bounds.bound_of_cell.Given as goal

-- the bound is not before `low` and not after `high`
abbrev pub invariant-loop-low : goal.invariant-loop-low
invariant-loop-low l = IsBracket (value_of l.cell) l.block.values l.start l.stop l.low l.high

abbrev pub decreases-loop-low : goal.decreases-loop-low
decreases-loop-low l = l.high - l.low
