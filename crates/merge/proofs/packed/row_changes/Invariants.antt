use Rattle.std.proofs.Common.{◌≡◌, ◌+◌, ◌≤◌, ◌^◌, ◌++◌, length}
use Rattle.merge.specs.Packed.{row_changes_from}
use Rattle.merge.proofs.packed.row_changes.Given as goal

-- those so far stand before those of the entries that are left, and no more rows are inserted than there are entries
abbrev pub invariant-loop-entry : goal.invariant-loop-entry
invariant-loop-entry l =
    (l.changes.items ++ row_changes_from l.rows l.place l.entry-iterator ≡ row_changes_from 0 0 l.tree.entries)
    × (l.rows + length l.entry-iterator ≤ 2 ^ 40)
    × (l.place + length l.entry-iterator ≤ 2 ^ 40)
