use Rattle.std.proofs.Common.{◌≡◌, ◌+◌, ◌*◌, ◌≤◌, ◌++◌, length}
use Rattle.std.specs.List.{All}
use Rattle.std.specs.Vec.Iter.{into_iter_items, into_iter_len}
use Rattle.counted.specs.declared.node.TheConstants.{MAX_WIDTH, MIN_WIDTH}
use Rattle.counted.specs.Shapes.{IsChild, all_items}
use Rattle.counted.proofs.node.bulk.leaves.Given as goal

-- the entries so far stand in leaves, and those that are left are enough for one
abbrev pub invariant-loop-alloc : goal.invariant-loop-alloc
invariant-loop-alloc l = record {
  left : length (into_iter_items l.rest) ≡ into_iter_len l.rest;
  enough : 1 ≤ into_iter_len l.rest → MIN_WIDTH ≤ into_iter_len l.rest;
  some : length l.fn.entries.items ≤ MAX_WIDTH * length l.children.items + into_iter_len l.rest;
  items : all_items l.children.items ++ (into_iter_items l.rest) ≡ l.fn.entries.items;
  each : All (IsChild 1) l.children.items;
}

abbrev pub decreases-loop-alloc : goal.decreases-loop-alloc
decreases-loop-alloc l = into_iter_len l.rest
