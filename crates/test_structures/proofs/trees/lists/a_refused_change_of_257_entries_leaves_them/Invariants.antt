use Rattle.std.proofs.Common.{◌≡◌}
use Rattle.test_structures.proofs.trees.lists.a_refused_change_of_257_entries_leaves_them.Given as goal

abbrev pub invariant-loop-step : goal.invariant-loop-step
invariant-loop-step g l = l.pair.tree.key_cols ≡ 1
