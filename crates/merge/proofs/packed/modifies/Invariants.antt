use Rattle.std.proofs.Common.{◌≡◌, ◌++◌}
use Rattle.merge.specs.Packed.{patches_in}
use Rattle.merge.proofs.packed.modifies.Given as goal

-- those so far stand before those of the entries that are left
abbrev pub invariant-loop-entry : goal.invariant-loop-entry
invariant-loop-entry l = l.patches.items ++ patches_in l.col l.entry-iterator ≡ patches_in l.col l.tree.entries
