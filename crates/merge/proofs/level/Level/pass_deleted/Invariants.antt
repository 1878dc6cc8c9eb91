use Rattle.std.proofs.Common.{◌≡◌, ◌-◌, ℕ, length}
use Rattle.std.specs.List.{All}
use Rattle.values.specs.declared.value.ColumnType.{ColumnType}
use Rattle.merge.specs.Cursor.{IsCursor, rows_left}
use Rattle.merge.specs.Filling.{IsWide}
use Rattle.merge.proofs.level.Level.pass_deleted.Given as goal

-- what is left stays the same
abbrev pub invariant-loop-self : goal.invariant-loop-self
invariant-loop-self g l =
    (rows_left l.self.cursor (g.B.Numbers.left l.self.below) ≡ rows_left l.fn.self.cursor (g.B.Numbers.left l.fn.self.below))
    × g.B.Numbers.is_lawful l.self.below
    × ((ty : ColumnType) (col : ℕ) → g.B.Numbers.has_column ty col l.fn.self.below → g.B.Numbers.has_column ty col l.self.below)
    × ((col : ℕ) → All (IsWide col) (g.B.Numbers.left l.fn.self.below) → All (IsWide col) (g.B.Numbers.left l.self.below))
    × IsCursor (length (g.B.Numbers.left l.self.below)) l.self.cursor

abbrev pub decreases-loop-self : goal.decreases-loop-self
decreases-loop-self g l = length l.self.cursor.tree.entries - l.self.cursor.index
