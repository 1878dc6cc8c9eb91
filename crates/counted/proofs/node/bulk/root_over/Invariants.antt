use Rattle.std.proofs.Common.{◌≡◌, ◌≤◌, length}
use Rattle.std.specs.List.{All}
use Rattle.counted.specs.Shapes.{IsChild, all_items, depth_of}
use Rattle.counted.proofs.node.bulk.root_over.Given as goal

-- a level is the children that hold all the entries
abbrev pub invariant-loop-alloc : goal.invariant-loop-alloc
invariant-loop-alloc l = record {
  some : 2 ≤ length l.level.items;
  items : all_items l.level.items ≡ l.fn.entries.items;
  each : All (IsChild (depth_of l.level.items)) l.level.items;
}

abbrev pub decreases-loop-alloc : goal.decreases-loop-alloc
decreases-loop-alloc l = length l.level.items
