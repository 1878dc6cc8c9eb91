use Rattle.std.proofs.Common.{length}
use Rattle.counted.specs.Grown.{grown_items}
use Rattle.counted.proofs.BranchesLemmas.{IsClimbed}
use Rattle.counted.proofs.node.path.Path.grown.Given as goal

abbrev pub invariant-loop-branch : goal.invariant-loop-branch
invariant-loop-branch l = IsClimbed l.fn.self.branches.items (grown_items l.fn.leaf) l.branches.items l.grown

abbrev pub decreases-loop-branch : goal.decreases-loop-branch
decreases-loop-branch l = length l.branches.items
