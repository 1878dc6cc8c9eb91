use Rattle.std.proofs.Common.{rules, ◌≡◌, ◌∙◌, [], ◌∷◌, length, refl, sym, ap, arith, w64}
use Rattle.std.proofs.lemmas.Int.{to_z-of_z}
use Rattle.std.specs.Prelude.{ℤ}
use Rattle.values.specs.Lent.{value_of}
use Rattle.values.specs.declared.value.ColumnType.TheVariants as column
use Rattle.merge.specs.Cursor.{rows_left}
use Rattle.merge.specs.Filling.{IsWide, numbers_in}
use Rattle.merge.specs.View.{layer_cells}
use Rattle.merge.proofs.FillingLemmas.{all_filled, all_skipped, fills_also, fills_below, fills_given, fills_inserted}
use Rattle.merge.proofs.ViewLemmas.{found_in}
use Rattle.merge.proofs.numbers.LevelNumbers.next_run.Goals as goal
use Rattle.std.proofs.lemmas.Grind.{common_steps}

pub returns-in-Inserted-clause-column : goal.returns-in-Inserted-clause-column
returns-in-Inserted-clause-column g c =
    (c.pass_deleted.ensures.column column.Int c.args.col c.requires.column.0, c.pass_deleted.ensures.wide c.args.col c.requires.column.1)

pub returns-in-Inserted-clause-numbers : goal.returns-in-Inserted-clause-numbers
returns-in-Inserted-clause-numbers g c = grind (arith, common_steps, c.in-Inserted.ensures.step, c.pass_deleted.ensures.rows, c.number_in.ensures, fills_inserted, fills_also, to_z-of_z, w64)

pub returns-in-Some-clause-column : goal.returns-in-Some-clause-column
returns-in-Some-clause-column g c =
    let skipped = c.pass_deleted.new.self in
    let col = c.args.col in (
      c.skip_row.ensures.column column.Int col (c.pass_deleted.ensures.column column.Int col c.requires.column.0),
      all_skipped (IsWide col) (g.B.Numbers.left skipped.below) (g.B.Numbers.left c.skip_row.new.self) c.skip_row.ensures.row
          (c.pass_deleted.ensures.wide col c.requires.column.1),
    )

pub returns-in-Some-clause-numbers : goal.returns-in-Some-clause-numbers
returns-in-Some-clause-numbers g c =
    let skipped = c.pass_deleted.new.self in
    let below = g.B.Numbers.left skipped.below in
    let left = g.B.Numbers.left c.skip_row.new.self in
    let col = c.args.col in
    let cells = layer_cells c.in-Modified.modifies in
    let wide = c.pass_deleted.ensures.wide col c.requires.column.1 in
    let given = found_in col cells _ _ c.value.ensures c.in-Some.is in
    let filled =
    fills_given col cells skipped.cursor c.step.new.self below left c.in-Modified.ensures.step c.pass_deleted.ensures.cursor wide
    (value_of c.in-Some.value) c.skip_row.ensures.row given in
    fills_also col (rows_left skipped.cursor below) _ (rows_left c.step.new.self left) _ _ c.pass_deleted.ensures.rows
    (ap (λ (n : ℤ). n ∷ []) (sym c.number_of.ensures ∙ sym (to_z-of_z w64 c.number_of.result (search rules))))
    filled

pub returns-in-None-clause-lawful : goal.returns-in-None-clause-lawful
returns-in-None-clause-lawful g c =
    let skipped = c.pass_deleted.new.self in
    let below = g.B.Numbers.left skipped.below in
    let left = g.B.Numbers.left c.next_run.new.self in
    let col = c.args.col in
    let cells = layer_cells c.in-Modified.modifies in
    let wide = c.pass_deleted.ensures.wide col c.requires.column.1 in
    let none = found_in col cells _ _ c.value.ensures c.in-None.is in
    let one : length (numbers_in c.next_run.result) ≡ 1 = omega (arith, c.next_run.ensures.some, c.next_run.ensures.few) in
    let filled =
    fills_below col cells skipped.cursor c.step.new.self below left c.in-Modified.ensures.step c.pass_deleted.ensures.cursor wide
    (numbers_in c.next_run.result) c.next_run.ensures.numbers one none in
    (c.next_run.ensures.lawful, filled.1)

pub returns-in-None-clause-column : goal.returns-in-None-clause-column
returns-in-None-clause-column g c =
    let skipped = c.pass_deleted.new.self in
    let col = c.args.col in (
      c.next_run.ensures.column,
      all_filled (IsWide col) col (g.B.Numbers.left skipped.below) (g.B.Numbers.left c.next_run.new.self) (numbers_in c.next_run.result) c.next_run.ensures.numbers
          (c.pass_deleted.ensures.wide col c.requires.column.1),
    )

pub returns-in-None-clause-numbers : goal.returns-in-None-clause-numbers
returns-in-None-clause-numbers g c =
    let skipped = c.pass_deleted.new.self in
    let below = g.B.Numbers.left skipped.below in
    let left = g.B.Numbers.left c.next_run.new.self in
    let col = c.args.col in
    let cells = layer_cells c.in-Modified.modifies in
    let wide = c.pass_deleted.ensures.wide col c.requires.column.1 in
    let none = found_in col cells _ _ c.value.ensures c.in-None.is in
    let one : length (numbers_in c.next_run.result) ≡ 1 = omega (arith, c.next_run.ensures.some, c.next_run.ensures.few) in
    let filled =
    fills_below col cells skipped.cursor c.step.new.self below left c.in-Modified.ensures.step c.pass_deleted.ensures.cursor wide
    (numbers_in c.next_run.result) c.next_run.ensures.numbers one none in
    fills_also col (rows_left skipped.cursor below) _ (rows_left c.step.new.self left) _ _ c.pass_deleted.ensures.rows
    refl filled.0

pub returns-in-Kept-clause-column : goal.returns-in-Kept-clause-column
returns-in-Kept-clause-column g c =
    let skipped = c.pass_deleted.new.self in
    let col = c.args.col in (
      c.next_run-run.ensures.column,
      all_filled (IsWide col) col (g.B.Numbers.left skipped.below) (g.B.Numbers.left c.next_run-run.new.self) (numbers_in c.next_run-run.result)
          c.next_run-run.ensures.numbers (c.pass_deleted.ensures.wide col c.requires.column.1),
    )
