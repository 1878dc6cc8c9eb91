use Rattle.std.proofs.Common.{◌≡◌, ◌+◌, ◌-◌, ◌<◌, ◌≤◌, length, take}
use Rattle.counted.specs.Shapes.{all_items}
use Rattle.counted.proofs.children.child_at.Given as goal

-- the index lies past the children so far
abbrev pub invariant-loop-index : goal.invariant-loop-index
invariant-loop-index l = record {
  within : l.index < length l.children;
  past : l.rest + length (all_items (take l.index l.children)) ≡ l.at;
  some : 1 ≤ l.at → 1 ≤ l.rest;
}

abbrev pub decreases-loop-index : goal.decreases-loop-index
decreases-loop-index l = length l.children - l.index
