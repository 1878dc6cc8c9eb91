use Rattle.std.proofs.Common.{◌≡◌}
use Rattle.test_structures.proofs.trees.lists.many_inserts.Given as goal

abbrev pub invariant-loop-place : goal.invariant-loop-place
invariant-loop-place g l = l.tree.key_cols ≡ 1
