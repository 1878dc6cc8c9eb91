use Rattle.std.proofs.Common.{◌≡◌, drop}
use Rattle.model.specs.Merging.{changes_at, left_of}
use Rattle.oracle.proofs.entries.push_left.Given as goal

abbrev pub invariant-loop-entry : goal.invariant-loop-entry
invariant-loop-entry l = record {
  kept : l.rows.items ≡ l.fn.rows.items;
  left : left_of l.cells.items (changes_at l.sid (drop l.entry-index l.entries)) ≡ left_of l.fn.row (changes_at l.sid l.entries);
}
