use Rattle.std.proofs.Common.{◌≡◌, ◌∙◌, ◌<◌, ◌≤◌, List, length, slice_get, Some, refl, sym, ap, subst, arith}
use Rattle.std.proofs.lemmas.Option.{slice_get-get_or}
use Rattle.values.specs.Lent.{value_of}
use Rattle.values.specs.declared.row.Row.{Row as Cells}
use Rattle.merge.specs.Cursor.{TreeCursor, IsCursor, moved, rows_left}
use Rattle.merge.specs.ColumnStretches.{HasFirst, PassesColumn, value_count}
use Rattle.merge.specs.View.{layer_cells, layer_number}
use Rattle.merge.specs.declared.column_stretch.ColumnStretch.TheVariants.{Value as One}
use Rattle.merge.proofs.ColumnStretchLemmas.{first_below-modified, first_below-kept, wide-inserted}
use Rattle.merge.proofs.ColumnStretchLemmas.{passes-inserted, passes-given, passes-below, passes-kept, cursor-below, cursor-kept}
use Rattle.merge.proofs.ViewLemmas.{found_in}
use Rattle.merge.proofs.level.LevelRows.next_of_column.Goals as goal

pub next_of_column-requires : goal.next_of_column-requires
next_of_column-requires g c κs =
    let skipped = c.skip_deleted.new.self in
    let below = g.B.Rows.rows skipped.below in
    let step = c.in-Modified.ensures.step in
    let first = subst (HasFirst c.args.col) (sym c.skip_deleted.ensures.rows) c.requires.first in
    let some = step.some (length below) c.skip_deleted.ensures.cursor in
    let first_below =
    first_below-modified c.args.col (layer_cells c.in-Modified.modifies) skipped.cursor c.step.new.self below step
    c.skip_deleted.ensures.cursor first in (
      (refl, tt),
      (c.skip_deleted.ensures.below, (omega arith, (omega (arith, some), first_below))),
    )

pub next_of_column-values-requires : goal.next_of_column-values-requires
next_of_column-values-requires g c κs =
    let skipped = c.skip_deleted.new.self in
    let below = g.B.Rows.rows skipped.below in
    let step = c.in-Kept.ensures.step.0 in
    let first = subst (HasFirst c.args.col) (sym c.skip_deleted.ensures.rows) c.requires.first in
    let left = ap length c.skip_deleted.ensures.rows in
    let most : c.args.most ≤ length (rows_left skipped.cursor below) = omega (arith, left, c.requires.most) in
    let some = step.some c.requires.some in
    let within = step.within below c.skip_deleted.ensures.cursor most in
    let first_below =
    first_below-kept c.args.col c.args.most c.in-Kept.count skipped.cursor below step some c.skip_deleted.ensures.cursor first in (
      (refl, tt),
      (c.skip_deleted.ensures.below, (some, (within, first_below))),
    )

pub returns-in-Inserted-clause-values : goal.returns-in-Inserted-clause-values
returns-in-Inserted-clause-values g c =
    let skipped = c.skip_deleted.new.self in
    let below = g.B.Rows.rows skipped.below in
    let col = c.args.col in
    let step = c.in-Inserted.ensures.step in
    let row = c.in-Inserted.row.now in
    let value = c.as_ref.result in
    let first = subst (HasFirst col) (sym c.skip_deleted.ensures.rows) c.requires.first in
    let wide = wide-inserted col row skipped.cursor c.step.new.self below step first in
    let cells = c.cells.result.now in
    let lt : col < length cells = omega (arith, wide, ap length c.cells.ensures) in
    let cell : slice_get row col ≡ Some (value_of value) =
    ap (λ (xs : Cells). slice_get xs col) (sym c.cells.ensures)
    ∙ slice_get-get_or cells col c.index-cells-col.result lt
    ∙ ap Some (sym c.index-cells-col.is ∙ sym c.as_ref.ensures) in
    subst (λ (rows : List Cells). PassesColumn col rows (One value) (rows_left c.step.new.self below)) c.skip_deleted.ensures.rows
    (passes-inserted col row value skipped.cursor c.step.new.self below step cell)

pub returns-in-Some-clause-values : goal.returns-in-Some-clause-values
returns-in-Some-clause-values g c =
    let skipped = c.skip_deleted.new.self in
    let below = g.B.Rows.rows skipped.below in
    let left = g.B.Rows.rows c.pass_row.new.self in
    let col = c.args.col in
    let step = c.in-Modified.ensures.step in
    let cells = layer_cells c.in-Modified.modifies in
    let first = subst (HasFirst col) (sym c.skip_deleted.ensures.rows) c.requires.first in
    let first_below = first_below-modified col cells skipped.cursor c.step.new.self below step c.skip_deleted.ensures.cursor first in
    let given = found_in col cells _ _ c.value.ensures c.in-Some.is in
    subst (λ (rows : List Cells). PassesColumn col rows (One c.in-Some.value) (rows_left c.step.new.self left)) c.skip_deleted.ensures.rows
    (passes-given col cells c.in-Some.value skipped.cursor c.step.new.self below left step c.skip_deleted.ensures.cursor first_below
    c.pass_row.ensures.rows given)

pub returns-in-None-clause-values : goal.returns-in-None-clause-values
returns-in-None-clause-values g c =
    let skipped = c.skip_deleted.new.self in
    let below = g.B.Rows.rows skipped.below in
    let left = g.B.Rows.rows c.next_of_column.new.self in
    let col = c.args.col in
    let step = c.in-Modified.ensures.step in
    let cells = layer_cells c.in-Modified.modifies in
    let first = subst (HasFirst col) (sym c.skip_deleted.ensures.rows) c.requires.first in
    let first_below = first_below-modified col cells skipped.cursor c.step.new.self below step c.skip_deleted.ensures.cursor first in
    let none = found_in col cells _ _ c.value.ensures c.in-None.is in
    subst (λ (rows : List Cells). PassesColumn col rows c.next_of_column.result (rows_left c.step.new.self left)) c.skip_deleted.ensures.rows
    (passes-below col cells skipped.cursor c.step.new.self below left c.next_of_column.result step c.skip_deleted.ensures.cursor first_below
    c.next_of_column.ensures.values c.next_of_column.ensures.most none)

pub returns-in-None-clause-sound : goal.returns-in-None-clause-sound
returns-in-None-clause-sound g c =
    let skipped = c.skip_deleted.new.self in
    let below = g.B.Rows.rows skipped.below in
    let left = g.B.Rows.rows c.next_of_column.new.self in
    let col = c.args.col in
    let step = c.in-Modified.ensures.step in
    let cells = layer_cells c.in-Modified.modifies in
    let first = subst (HasFirst col) (sym c.skip_deleted.ensures.rows) c.requires.first in
    let first_below = first_below-modified col cells skipped.cursor c.step.new.self below step c.skip_deleted.ensures.cursor first in (
      c.next_of_column.ensures.sound,
      cursor-below col cells skipped.cursor c.step.new.self below left c.next_of_column.result step c.skip_deleted.ensures.cursor
          first_below c.next_of_column.ensures.values c.next_of_column.ensures.most,
      c.next_of_column.ensures.depth
          ∙ c.skip_deleted.ensures.depth
          ∙ c.requires.sound.2
          ∙ ap layer_number (sym c.skip_deleted.ensures.layer),
    )

pub returns-in-Kept-clause-values : goal.returns-in-Kept-clause-values
returns-in-Kept-clause-values g c =
    let skipped = c.skip_deleted.new.self in
    let below = g.B.Rows.rows skipped.below in
    let left = g.B.Rows.rows c.next_of_column-values.new.self in
    let col = c.args.col in
    let step = c.in-Kept.ensures.step in
    let values = c.next_of_column-values.result in
    let count = value_count values in
    let moves : moved count skipped.cursor ≡ c.pass.new.self = sym (c.pass.ensures ∙ (λ i. moved (c.count.ensures i) (step.1 i))) in
    let passed =
    passes-kept col c.args.most c.in-Kept.count skipped.cursor below left values step.0 c.skip_deleted.ensures.cursor
    c.next_of_column-values.ensures.values c.next_of_column-values.ensures.most in
    let old = rows_left c.args.self.now.cursor (g.B.Rows.rows c.args.self.now.below) in
    subst (λ (x : TreeCursor). PassesColumn col old values (rows_left x left)) moves
    (subst (λ (rows : List Cells). PassesColumn col rows values (rows_left (moved count skipped.cursor) left)) c.skip_deleted.ensures.rows
    passed)

pub returns-in-Kept-clause-sound : goal.returns-in-Kept-clause-sound
returns-in-Kept-clause-sound g c =
    let skipped = c.skip_deleted.new.self in
    let below = g.B.Rows.rows skipped.below in
    let left = g.B.Rows.rows c.next_of_column-values.new.self in
    let step = c.in-Kept.ensures.step in
    let values = c.next_of_column-values.result in
    let count = value_count values in
    let moves : moved count skipped.cursor ≡ c.pass.new.self = sym (c.pass.ensures ∙ (λ i. moved (c.count.ensures i) (step.1 i))) in (
      c.next_of_column-values.ensures.sound,
      subst (λ (x : TreeCursor). IsCursor (length left) x) moves
          (cursor-kept c.args.col c.args.most c.in-Kept.count skipped.cursor below left values step.0 c.skip_deleted.ensures.cursor
          c.next_of_column-values.ensures.values c.next_of_column-values.ensures.most),
      c.next_of_column-values.ensures.depth
          ∙ c.skip_deleted.ensures.depth
          ∙ c.requires.sound.2
          ∙ ap layer_number (sym c.skip_deleted.ensures.layer),
    )
