use Rattle.std.proofs.Common.{◌≡◌}
use Rattle.stable.specs.Rows.{first_columns}
use Rattle.stable.proofs.table.columns_of.Given as goal

abbrev pub invariant-loop-col : goal.invariant-loop-col
invariant-loop-col l = l.columns.items ≡ first_columns l.types l.rows l.col
