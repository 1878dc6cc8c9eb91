use Rattle.std.proofs.Common.{◌≡◌, take}
use Rattle.inputs.proofs.table.copied_rows.Given as goal

abbrev pub invariant-loop-sid : goal.invariant-loop-sid
invariant-loop-sid l = l.rows.items ≡ take l.sid l.table.rows
