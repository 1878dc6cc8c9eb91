use Rattle.std.proofs.Common.{◌≡◌}
use Rattle.test_structures.proofs.trees.lists.wide.Given as goal

abbrev pub invariant-loop-place : goal.invariant-loop-place
invariant-loop-place g l = l.pair.tree.key_cols ≡ 1

abbrev pub invariant-loop-col : goal.invariant-loop-col
invariant-loop-col g l = l.pair.tree.key_cols ≡ 1
