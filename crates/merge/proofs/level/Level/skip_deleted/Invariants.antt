use Rattle.std.proofs.Common.{◌≡◌, ◌-◌, List, length}
use Rattle.values.specs.declared.row.Row.{Row as Cells}
use Rattle.merge.specs.Cursor.{IsCursor, rows_left}
use Rattle.merge.proofs.level.Level.skip_deleted.Given as goal

-- what is left stays the same, over other stable rows too
abbrev pub invariant-loop-self : goal.invariant-loop-self
invariant-loop-self g l =
    (rows_left l.self.cursor (g.B.Rows.rows l.self.below) ≡ rows_left l.fn.self.cursor (g.B.Rows.rows l.fn.self.below))
    × (l.self.layer ≡ l.fn.self.layer)
    × (g.B.Rows.depth l.self.below ≡ g.B.Rows.depth l.fn.self.below)
    × g.B.Rows.is_sound l.self.below
    × IsCursor (length (g.B.Rows.rows l.self.below)) l.self.cursor
    × ((base : List Cells) → g.B.Rows.are_alike base l.fn.self.below
    → length (g.B.Rows.over base l.fn.self.below) ≡ length (g.B.Rows.rows l.fn.self.below)
    → g.B.Rows.are_alike base l.self.below
    × (length (g.B.Rows.over base l.self.below) ≡ length (g.B.Rows.rows l.self.below))
    × (rows_left l.self.cursor (g.B.Rows.over base l.self.below)
    ≡ rows_left l.fn.self.cursor (g.B.Rows.over base l.fn.self.below)))

abbrev pub decreases-loop-self : goal.decreases-loop-self
decreases-loop-self g l = length l.self.cursor.tree.entries - l.self.cursor.index
