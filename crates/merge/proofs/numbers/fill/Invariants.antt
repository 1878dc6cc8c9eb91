use Rattle.std.proofs.Common.{◌≡◌, ◌≤◌, ◌-◌, length, take}
use Rattle.values.specs.declared.value.ColumnType.{ColumnType}
use Rattle.merge.specs.Filling.{FillsRows}
use Rattle.merge.proofs.numbers.fill.Given as goal

-- so much of the room has the numbers of the rows that are passed
abbrev pub invariant-loop-done : goal.invariant-loop-done
invariant-loop-done g l =
    (length l.out ≡ length l.fn.out)
    × (l.done ≤ length l.out)
    × g.N.Numbers.is_lawful l.rows
    × ((ty : ColumnType) → g.N.Numbers.has_column ty l.col l.fn.rows → g.N.Numbers.has_column ty l.col l.rows)
    × FillsRows l.col (g.N.Numbers.left l.fn.rows) (take l.done l.out) (g.N.Numbers.left l.rows)

abbrev pub decreases-loop-done : goal.decreases-loop-done
decreases-loop-done g l = length l.initial.out - l.done
