use Rattle.std.proofs.Common.{◌≡◌, ◌++◌, drop}
use Rattle.model.specs.Merging.{merged_rows_from, merged_rows}
use Rattle.oracle.proofs.entries.merged_rows.Given as goal

abbrev pub invariant-loop-sid : goal.invariant-loop-sid
invariant-loop-sid l = l.rows.items ++ merged_rows_from l.sid (drop l.sid l.base) l.entries ≡ merged_rows l.base l.entries
