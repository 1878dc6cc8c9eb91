use Rattle.std.proofs.Common.{◌≡◌, length, take}
use Rattle.counted.specs.Shapes.{all_items}
use Rattle.counted.proofs.children.count_of.Given as goal

abbrev pub invariant-loop-child : goal.invariant-loop-child
invariant-loop-child l = l.count ≡ length (all_items (take l.child-index l.children))
