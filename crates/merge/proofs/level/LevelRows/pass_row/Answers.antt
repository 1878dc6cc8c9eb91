use Rattle.std.proofs.Common.{◌≡◌, ◌∙◌, List, length, sym, ap, subst, arith}
use Rattle.values.specs.declared.row.Row.{Row as Cells}
use Rattle.merge.specs.Cursor.{TreeCursor, IsCursor, moved, rows_left}
use Rattle.merge.specs.ColumnStretches.{PassesRow}
use Rattle.merge.specs.View.{layer_number}
use Rattle.merge.proofs.ColumnStretchLemmas.{row-kept, cursor-kept_row}
use Rattle.merge.proofs.level.LevelRows.pass_row.Goals as goal

pub returns-in-Kept-clause-rows : goal.returns-in-Kept-clause-rows
returns-in-Kept-clause-rows g c =
    let skipped = c.skip_deleted.new.self in
    let left = g.B.Rows.rows c.pass_row-in-Kept.new.self in
    let step = c.in-Kept.ensures.step in
    let moves : moved 1 skipped.cursor ≡ c.pass.new.self = sym (c.pass.ensures ∙ ap (moved 1) step.1) in
    let passed =
    row-kept (g.B.Rows.rows skipped.below) left c.pass_row-in-Kept.ensures.rows 1 c.in-Kept.field-0 skipped.cursor step.0
    (step.0.some (omega arith)) c.skip_deleted.ensures.cursor in
    subst (λ (x : TreeCursor). PassesRow (rows_left c.args.self.now.cursor (g.B.Rows.rows c.args.self.now.below)) (rows_left x left)) moves
    (subst (λ (rows : List Cells). PassesRow rows (rows_left (moved 1 skipped.cursor) left)) c.skip_deleted.ensures.rows passed)

pub returns-in-Kept-clause-sound : goal.returns-in-Kept-clause-sound
returns-in-Kept-clause-sound g c =
    let skipped = c.skip_deleted.new.self in
    let left = g.B.Rows.rows c.pass_row-in-Kept.new.self in
    let step = c.in-Kept.ensures.step in
    let moves : moved 1 skipped.cursor ≡ c.pass.new.self = sym (c.pass.ensures ∙ ap (moved 1) step.1) in (
      c.pass_row-in-Kept.ensures.sound,
      subst (λ (x : TreeCursor). IsCursor (length left) x) moves
          (cursor-kept_row (g.B.Rows.rows skipped.below) left c.pass_row-in-Kept.ensures.rows 1 c.in-Kept.field-0 skipped.cursor step.0
          (step.0.some (omega arith)) c.skip_deleted.ensures.cursor),
      c.pass_row-in-Kept.ensures.depth
          ∙ c.skip_deleted.ensures.depth
          ∙ c.requires.sound.2
          ∙ ap layer_number (sym c.skip_deleted.ensures.layer),
    )

-- ---- over other stable rows

pub returns-in-Kept-clause-over : goal.returns-in-Kept-clause-over
returns-in-Kept-clause-over g c = λ base alike.
    let skipped = c.skip_deleted.new.self in
    let same = c.skip_deleted.ensures.alike base alike.0 alike.1 in
    let below = g.B.Rows.over base skipped.below in
    let left = g.B.Rows.over base c.pass_row-in-Kept.new.self in
    let step = c.in-Kept.ensures.step in
    let stands = subst (λ n. IsCursor n skipped.cursor) (sym same.1) c.skip_deleted.ensures.cursor in
    let moves : moved 1 skipped.cursor ≡ c.pass.new.self = sym (c.pass.ensures ∙ ap (moved 1) step.1) in
    let passed =
    row-kept below left (c.pass_row-in-Kept.ensures.over base same.0) 1 c.in-Kept.field-0 skipped.cursor step.0
    (step.0.some (omega arith)) stands in
    subst (λ (x : TreeCursor). PassesRow (rows_left c.args.self.now.cursor (g.B.Rows.over base c.args.self.now.below)) (rows_left x left))
    moves
    (subst (λ (xs : List Cells). PassesRow xs (rows_left (moved 1 skipped.cursor) left)) (c.skip_deleted.ensures.over base alike.0 alike.1)
    passed)
