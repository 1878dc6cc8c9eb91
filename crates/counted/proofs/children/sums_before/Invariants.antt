use Rattle.std.proofs.Common.{◌≡◌, length, take}
use Rattle.counted.specs.Shapes.{all_items}
use Rattle.counted.specs.Sums.{total}
use Rattle.counted.proofs.children.sums_before.Given as goal

-- the sums of the children so far
abbrev pub invariant-loop-child : goal.invariant-loop-child
invariant-loop-child l = record {
  count : l.count ≡ length (all_items (take l.child-index l.children));
  net : l.net ≡ total (all_items (take l.child-index l.children));
}
