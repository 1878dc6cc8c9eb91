use Rattle.std.proofs.Common.{◌≤◌}
use Rattle.counted.proofs.BranchesLemmas.{IsAlong}
use Rattle.counted.proofs.node.Node.path_to.Given as goal

-- the branches so far lead to the node
abbrev pub invariant-loop-node : goal.invariant-loop-node
invariant-loop-node l = record {
  capacity : 21 ≤ l.branches.capacity;
  along : IsAlong l.self l.fn.end l.node l.end l.branches.items;
}

abbrev pub decreases-loop-node : goal.decreases-loop-node
decreases-loop-node l = l.node.depth
