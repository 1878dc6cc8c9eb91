use Rattle.std.proofs.Common.{◌+◌, map}
use Rattle.inputs.specs.Filling.{row_in}
use Rattle.inputs.specs.Order.{IsLeastRepeat}
use Rattle.inputs.proofs.ascent.least_repeat.Given as goal

-- the least number among the rows so far
abbrev pub invariant-loop-i : goal.invariant-loop-i
invariant-loop-i l = IsLeastRepeat l.key_cols (map (row_in l.columns) l.places) (l.i + 1) l.least
