use Rattle.std.proofs.Common.{◌-◌, map}
use Rattle.values.specs.declared.value.Value.TheVariants.{Bool as Truth}
use Rattle.stable.specs.Bounds.{IsBracket}
use Rattle.stable.proofs.bounds.bound_of_truth.Given as goal

-- the bound is not before `low` and not after `high`
abbrev pub invariant-loop-low : goal.invariant-loop-low
invariant-loop-low l = IsBracket (Truth l.truth) (map Truth l.truths) l.start l.stop l.low l.high

abbrev pub decreases-loop-low : goal.decreases-loop-low
decreases-loop-low l = l.high - l.low
