use Rattle.std.proofs.Common.{◌≡◌}
use Rattle.test_structures.proofs.trees.steps.inserts.Given as goal

abbrev pub invariant-loop-sid : goal.invariant-loop-sid
invariant-loop-sid g l = l.tree.key_cols ≡ 1
