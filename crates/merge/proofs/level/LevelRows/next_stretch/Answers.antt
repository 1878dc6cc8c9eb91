use Rattle.std.proofs.Common.{◌≡◌, ◌∙◌, List, length, sym, subst, arith}
use Rattle.std.proofs.lemmas.Grind.{common_steps}
use Rattle.values.specs.declared.row.Row.{Row as Cells}
use Rattle.merge.specs.Cursor.{TreeCursor, moved, rows_left}
use Rattle.merge.specs.Stretches.{PassesOver, stretch_rows}
use Rattle.merge.proofs.OverLemmas.{over-kept}
use Rattle.merge.proofs.StretchLemmas.{stretch_above}
use Rattle.merge.proofs.level.LevelRows.next_stretch.Goals as goal

pub returns-in-Modified-clause-rows : goal.returns-in-Modified-clause-rows
returns-in-Modified-clause-rows c = grind (arith, common_steps)

pub returns-in-Kept-clause-stretch : goal.returns-in-Kept-clause-stretch
returns-in-Kept-clause-stretch g c =
    grind (arith, common_steps, c.skip_deleted.ensures.depth, c.requires.sound.2, c.next_stretch-stretch.ensures.stretch, stretch_above)

-- ---- over other stable rows

pub returns-in-Kept-clause-over : goal.returns-in-Kept-clause-over
returns-in-Kept-clause-over g c = λ base alike.
    let skipped = c.skip_deleted.new.self in
    let same = c.skip_deleted.ensures.alike base alike.0 alike.1 in
    let stretch = c.next_stretch-stretch.result in
    let left = g.B.Rows.over base c.next_stretch-stretch.new.self in
    let step = c.in-Kept.ensures.step in
    let moves : moved (length (stretch_rows stretch)) skipped.cursor ≡ c.pass.new.self =
    sym (c.pass.ensures ∙ (λ i. moved (c.count.ensures i) (step.1 i))) in
    subst (λ (x : TreeCursor). PassesOver base (rows_left c.args.self.now.cursor (g.B.Rows.over base c.args.self.now.below)) stretch
    (rows_left x left)) moves
    (subst (λ (xs : List Cells). PassesOver base xs stretch (rows_left (moved (length (stretch_rows stretch)) skipped.cursor) left))
    (c.skip_deleted.ensures.over base alike.0 alike.1)
    (over-kept base c.args.most c.in-Kept.count stretch skipped.cursor (g.B.Rows.rows skipped.below) (g.B.Rows.over base skipped.below)
    left
    step.0
    c.skip_deleted.ensures.cursor
    same.1
    (c.next_stretch-stretch.ensures.over base same.0)
    c.next_stretch-stretch.ensures.most))
