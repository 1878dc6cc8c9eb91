use Rattle.std.proofs.Common.{◌≡◌, ℕ, ◌+◌, ◌++◌, length, take}
use Rattle.std.specs.List.{All}
use Rattle.counted.specs.Shapes.{IsChild, all_items}
use Rattle.counted.proofs.node.grown.push_children.Given as goal

-- the children so far stand at the end
abbrev pub invariant-loop-child : goal.invariant-loop-child
invariant-loop-child l = record {
  items : all_items l.out.items ≡ all_items l.initial.out.items ++ all_items (take l.child-index l.children);
  count : length l.out.items ≡ length l.initial.out.items + l.child-index;
  each : (depth : ℕ) → All (IsChild depth) l.initial.out.items → All (IsChild depth) l.children → All (IsChild depth) l.out.items;
}
