use Rattle.std.proofs.Common.{◌≡◌}
use Rattle.test_structures.proofs.trees.lists.change_randomly.Given as goal

abbrev pub invariant-loop : goal.invariant-loop
invariant-loop g l = l.pair.tree.key_cols ≡ 1
