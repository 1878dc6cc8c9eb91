use Rattle.std.proofs.Common.{◌≡◌, ◌++◌, ◌≤◌, length}
use Rattle.layers.proofs.rebase.first_entries.Given as goal

-- the entries so far, with those that are left, are all, and they are no more than those wanted
abbrev pub invariant-loop-entry : goal.invariant-loop-entry
invariant-loop-entry l = record {
  all : l.entries.items ++ l.entry-iterator ≡ l.tree.entries;
  few : length l.entries.items ≤ l.count;
}
