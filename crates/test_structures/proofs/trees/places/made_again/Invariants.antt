use Rattle.std.proofs.Common.{◌≡◌, ◌++◌}
use Rattle.test_structures.proofs.trees.places.made_again.Given as goal

abbrev pub invariant-loop-entry : goal.invariant-loop-entry
invariant-loop-entry l = l.entries.items ++ l.entry-iterator ≡ l.fn.tree.entries
