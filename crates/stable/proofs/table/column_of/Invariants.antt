use Rattle.std.proofs.Common.{◌≡◌, take}
use Rattle.stable.specs.Rows.{column_at}
use Rattle.stable.proofs.table.column_of.Given as goal

-- the rows so far
abbrev pub invariant-loop-row : goal.invariant-loop-row
invariant-loop-row l = l.column ≡ column_at l.types (take l.row-index l.rows) l.col
