use Rattle.std.proofs.Common.{◌≡◌}
use Rattle.test_codec.proofs.trees.tree_of.Given as goal

-- rows of the tree are found by their first cell
abbrev pub invariant-loop-entry : goal.invariant-loop-entry
invariant-loop-entry g l =
    (goal.iterator-loop-entry g).can_next l.entry-iterator ×
    (goal.iterator-loop-entry g).is_finite l.entry-iterator ×
    (l.tree.key_cols ≡ 1)
