use Rattle.std.proofs.Common.{◌≡◌}
use Rattle.merge.specs.Stretches.{stretch_rows}
use Rattle.merge.proofs.ColumnsLemmas.{grown_to}
use Rattle.merge.proofs.table.add_to_each.Given as goal

-- the first columns have the rows' values
abbrev pub invariant-loop-col : goal.invariant-loop-col
invariant-loop-col l = l.columns.items ≡ grown_to 0 l.col l.fn.columns.items (stretch_rows l.stretch)
