use Rattle.std.proofs.Common.{◌∙◌, List, length, sym, ap, subst}
use Rattle.values.specs.declared.row.Row.{Row as Cells}
use Rattle.merge.specs.Cursor.{IsCursor, rows_left}
use Rattle.merge.specs.Filling.{IsWide}
use Rattle.merge.proofs.FillingLemmas.{all_skipped}
use Rattle.merge.proofs.level.Level.pass_deleted.Goals as goal

pub loop-self-preserved : goal.loop-self-preserved
loop-self-preserved g c =
    let inv = c.loop-self.invariant in
    let old = c.loop-self.self in
    let below = g.B.Numbers.left old.below in
    let left = g.B.Numbers.left c.skip_row.new.self in
    let passed = c.skip_row.ensures.row in
    let next = c.skip_delete.ensures.skipped c.loop-self-test.true in
    let over = subst (λ (xs : List Cells). IsCursor (length xs) old.cursor) passed.rows inv.4 in (
      sym (ap (rows_left old.cursor) passed.rows ∙ next.rows passed.row left over) ∙ inv.0,
      c.skip_row.ensures.lawful,
      λ ty col h. c.skip_row.ensures.column ty col (inv.2 ty col h),
      λ col h. all_skipped (IsWide col) below left passed (inv.3 col h),
      next.cursor (length left) over,
    )
