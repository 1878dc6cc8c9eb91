use Rattle.std.proofs.Common.{◌≡◌, []}
use Rattle.stable.specs.Rows.{first_columns}
use Rattle.merge.proofs.table.empty_columns.Given as goal

-- the columns so far
abbrev pub invariant-loop-col : goal.invariant-loop-col
invariant-loop-col l = l.columns.items ≡ first_columns l.types [] l.col
