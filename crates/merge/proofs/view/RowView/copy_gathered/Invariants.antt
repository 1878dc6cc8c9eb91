use Rattle.std.proofs.Common.{◌≡◌, take}
use Rattle.merge.specs.View.{row_of}
use Rattle.merge.proofs.view.RowView.copy_gathered.Given as goal

-- the values so far are those of the first columns
abbrev pub invariant-loop-col : goal.invariant-loop-col
invariant-loop-col l = l.cells.items ≡ take l.col (row_of l.self)
