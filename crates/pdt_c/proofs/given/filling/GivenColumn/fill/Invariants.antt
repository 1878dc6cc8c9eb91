use Rattle.std.proofs.Common.{◌≡◌, length}
use Rattle.pdt_c.specs.Filling.{AreFirst}
use Rattle.pdt_c.proofs.given.filling.GivenColumn.fill.Given as goal

-- the values of the rows so far
abbrev pub invariant-loop-row : goal.invariant-loop-row
invariant-loop-row l =
    (l.column.ty ≡ l.ty)
    × (length l.column.values ≡ l.row)
    × AreFirst l.ty l.self l.row l.column.values
