use Rattle.std.proofs.Common.{◌≡◌, ◌++◌, drop}
use Rattle.model.specs.Merging.{changes_at, inserted_rows}
use Rattle.oracle.proofs.entries.push_inserted.Given as goal

abbrev pub invariant-loop-entry : goal.invariant-loop-entry
invariant-loop-entry l =
    l.rows.items ++ inserted_rows (changes_at l.sid (drop l.entry-index l.entries))
    ≡ l.fn.rows.items ++ inserted_rows (changes_at l.sid l.entries)
