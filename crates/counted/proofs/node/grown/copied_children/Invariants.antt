use Rattle.std.proofs.Common.{◌≡◌, ℕ, length, take}
use Rattle.std.specs.List.{All}
use Rattle.std.specs.Prelude.{vec_len, vec_capacity}
use Rattle.counted.specs.Shapes.{IsChild, all_items}
use Rattle.counted.proofs.node.grown.copied_children.Given as goal

-- the children so far, with room for the others
abbrev pub invariant-loop-child : goal.invariant-loop-child
invariant-loop-child l = record {
  items : all_items l.out.items ≡ all_items (take l.child-index l.children);
  count : length l.out.items ≡ l.child-index;
  each : (depth : ℕ) → All (IsChild depth) l.children → All (IsChild depth) l.out.items;
  len : vec_len l.out ≡ l.child-index;
  room : vec_capacity l.out ≡ length l.children;
}
