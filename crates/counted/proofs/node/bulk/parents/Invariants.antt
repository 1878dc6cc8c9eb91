use Rattle.std.proofs.Common.{◌≡◌, suc, ◌+◌, ◌*◌, ◌≤◌, ◌++◌, length}
use Rattle.std.specs.List.{All}
use Rattle.std.specs.Vec.Iter.{into_iter_items, into_iter_len}
use Rattle.counted.specs.declared.node.TheConstants.{MAX_WIDTH, MIN_WIDTH}
use Rattle.counted.specs.Shapes.{IsChild, all_items, depth_of}
use Rattle.counted.proofs.node.bulk.parents.Given as goal

-- the children so far stand below nodes, and those that are left are enough for one
abbrev pub invariant-loop-alloc : goal.invariant-loop-alloc
invariant-loop-alloc l = record {
  left : length (into_iter_items l.rest) ≡ into_iter_len l.rest;
  enough : 1 ≤ into_iter_len l.rest → MIN_WIDTH ≤ into_iter_len l.rest;
  some : length l.fn.children.items ≤ MAX_WIDTH * length l.out.items + into_iter_len l.rest;
  fewer : MIN_WIDTH * length l.out.items + into_iter_len l.rest ≤ length l.fn.children.items;
  items : all_items l.out.items ++ all_items (into_iter_items l.rest) ≡ all_items l.fn.children.items;
  rest : All (IsChild (depth_of l.fn.children.items)) (into_iter_items l.rest);
  each : All (IsChild (suc (depth_of l.fn.children.items))) l.out.items;
}

abbrev pub decreases-loop-alloc : goal.decreases-loop-alloc
decreases-loop-alloc l = into_iter_len l.rest
