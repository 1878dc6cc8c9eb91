use Rattle.std.proofs.Common.{◌≡◌, ◌∙◌, List, length, sym, ap, subst, arith}
use Rattle.values.specs.declared.row.Row.{Row as Cells}
use Rattle.merge.specs.Cursor.{TreeCursor, IsCursor, moved, rows_left}
use Rattle.merge.specs.Filling.{IsWide}
use Rattle.merge.specs.ColumnStretches.{PassesRow}
use Rattle.merge.proofs.FillingLemmas.{all_skipped}
use Rattle.merge.proofs.ColumnStretchLemmas.{row-kept, cursor-kept_row}
use Rattle.merge.proofs.numbers.LevelNumbers.skip_row.Goals as goal

pub returns-in-Inserted-clause-column : goal.returns-in-Inserted-clause-column
returns-in-Inserted-clause-column g c = λ ty col h. (c.pass_deleted.ensures.column ty col h.0, c.pass_deleted.ensures.wide col h.1)

pub returns-in-Modified-clause-column : goal.returns-in-Modified-clause-column
returns-in-Modified-clause-column g c = λ ty col h.
    let skipped = c.pass_deleted.new.self in (
      c.skip_row.ensures.column ty col (c.pass_deleted.ensures.column ty col h.0),
      all_skipped (IsWide col) (g.B.Numbers.left skipped.below) (g.B.Numbers.left c.skip_row.new.self) c.skip_row.ensures.row
          (c.pass_deleted.ensures.wide col h.1),
    )

pub returns-in-Kept-clause-lawful : goal.returns-in-Kept-clause-lawful
returns-in-Kept-clause-lawful g c =
    let skipped = c.pass_deleted.new.self in
    let left = g.B.Numbers.left c.skip_row-in-Kept.new.self in
    let step = c.in-Kept.ensures.step in
    let moves : moved 1 skipped.cursor ≡ c.pass.new.self = sym (c.pass.ensures ∙ ap (moved 1) step.1) in (
      c.skip_row-in-Kept.ensures.lawful,
      subst (λ (x : TreeCursor). IsCursor (length left) x) moves
          (cursor-kept_row (g.B.Numbers.left skipped.below) left c.skip_row-in-Kept.ensures.row 1 c.in-Kept.field-0 skipped.cursor step.0
          (step.0.some (omega arith)) c.pass_deleted.ensures.cursor),
    )

pub returns-in-Kept-clause-column : goal.returns-in-Kept-clause-column
returns-in-Kept-clause-column g c = λ ty col h.
    let skipped = c.pass_deleted.new.self in (
      c.skip_row-in-Kept.ensures.column ty col (c.pass_deleted.ensures.column ty col h.0),
      all_skipped (IsWide col) (g.B.Numbers.left skipped.below) (g.B.Numbers.left c.skip_row-in-Kept.new.self)
          c.skip_row-in-Kept.ensures.row (c.pass_deleted.ensures.wide col h.1),
    )

pub returns-in-Kept-clause-row : goal.returns-in-Kept-clause-row
returns-in-Kept-clause-row g c =
    let skipped = c.pass_deleted.new.self in
    let left = g.B.Numbers.left c.skip_row-in-Kept.new.self in
    let step = c.in-Kept.ensures.step in
    let moves : moved 1 skipped.cursor ≡ c.pass.new.self = sym (c.pass.ensures ∙ ap (moved 1) step.1) in
    let passed =
    row-kept (g.B.Numbers.left skipped.below) left c.skip_row-in-Kept.ensures.row 1 c.in-Kept.field-0 skipped.cursor step.0
    (step.0.some (omega arith)) c.pass_deleted.ensures.cursor in
    subst (λ (x : TreeCursor). PassesRow (rows_left c.args.self.now.cursor (g.B.Numbers.left c.args.self.now.below)) (rows_left x left))
    moves (subst (λ (rows : List Cells). PassesRow rows (rows_left (moved 1 skipped.cursor) left)) c.pass_deleted.ensures.rows passed)
