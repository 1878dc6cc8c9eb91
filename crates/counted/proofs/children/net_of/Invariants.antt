use Rattle.std.proofs.Common.{◌≡◌, take}
use Rattle.counted.specs.Sums.{total}
use Rattle.counted.specs.Shapes.{all_items}
use Rattle.counted.proofs.children.net_of.Given as goal

abbrev pub invariant-loop-child : goal.invariant-loop-child
invariant-loop-child l = l.net ≡ total (all_items (take l.child-index l.children))
