use Rattle.std.proofs.Common.{◌≡◌, ◌++◌}
use Rattle.pdt_c.proofs.handles.layer.LayerEntries.of.Given as goal

-- the entries so far, with those that are left, are all
abbrev pub invariant-loop-entry : goal.invariant-loop-entry
invariant-loop-entry l = l.entries.items ++ l.entry-iterator ≡ l.tree.entries
