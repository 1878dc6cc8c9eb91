use Rattle.std.proofs.Common.{◌≡◌, take, true}
use Rattle.std.specs.List.{list_all}
use Rattle.std.specs.Ordering.{eq_by_cmp}
use Rattle.values.specs.Lent.{value_of}
use Rattle.values.specs.Orders.{value_cmp}
use Rattle.blocks.proofs.encoding.is_constant.Given as goal

-- the values so far are equal to the first
abbrev pub invariant-loop-i : goal.invariant-loop-i
invariant-loop-i l = list_all (eq_by_cmp value_cmp (value_of l.first)) (take l.i l.block.values) ≡ true
