use Rattle.std.proofs.Common.{◌≡◌}
use Rattle.test_structures.proofs.trees.lists.ten_thousand_random_changes_leave_the_list_and_each_copy.Given as goal

abbrev pub invariant-loop : goal.invariant-loop
invariant-loop g l = l.pair.tree.key_cols ≡ 1
