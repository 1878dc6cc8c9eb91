use Rattle.std.proofs.Common.{◌≡◌, ◌++◌}
use Rattle.model.specs.Table.{rows_of}
use Rattle.oracle.proofs.table.OrderedTable.rows.Given as goal

abbrev pub invariant-loop-row : goal.invariant-loop-row
invariant-loop-row l = l.rows.items ++ l.row-iterator ≡ rows_of l.fn.self
