use Rattle.std.proofs.Common.{rules, ◌≡◌, ◌∙◌, [], ◌∷◌, length, drop, sym, ap, arith, length-take}
use Rattle.std.specs.Prelude.{ℤ}
use Rattle.values.specs.Lent.{value_of}
use Rattle.merge.specs.Cursor.{rows_left}
use Rattle.merge.specs.Filling.{IsWide}
use Rattle.merge.specs.View.{layer_cells}
use Rattle.merge.proofs.FillingLemmas.{all_filled, all_skipped, fills_also, fills_below, fills_given, fills_inserted, room_first, room_one}
use Rattle.merge.proofs.ViewLemmas.{found_in}
use Rattle.merge.proofs.numbers.LevelNumbers.fill_next.Goals as goal
use Rattle.std.proofs.lemmas.Grind.{common_steps}

pub returns-in-Inserted-clause-column : goal.returns-in-Inserted-clause-column
returns-in-Inserted-clause-column g c = λ ty column.
    (c.pass_deleted.ensures.column ty c.args.col column.0, c.pass_deleted.ensures.wide c.args.col column.1)

pub returns-in-Inserted-clause-numbers : goal.returns-in-Inserted-clause-numbers
returns-in-Inserted-clause-numbers g c = grind (arith, common_steps, c.in-Inserted.ensures.step, c.pass_deleted.ensures.rows, c.number_in.ensures, c.requires.some, fills_inserted, fills_also, room_one)

pub returns-in-Some-clause-column : goal.returns-in-Some-clause-column
returns-in-Some-clause-column g c = λ ty column.
    let skipped = c.pass_deleted.new.self in
    let col = c.args.col in (
      c.skip_row.ensures.column ty col (c.pass_deleted.ensures.column ty col column.0),
      all_skipped (IsWide col) (g.B.Numbers.left skipped.below) (g.B.Numbers.left c.skip_row.new.self) c.skip_row.ensures.row
          (c.pass_deleted.ensures.wide col column.1),
    )

pub returns-in-Some-clause-numbers : goal.returns-in-Some-clause-numbers
returns-in-Some-clause-numbers g c =
    let skipped = c.pass_deleted.new.self in
    let below = g.B.Numbers.left skipped.below in
    let left = g.B.Numbers.left c.skip_row.new.self in
    let col = c.args.col in
    let cells = layer_cells c.in-Modified.modifies in
    let wide = c.pass_deleted.ensures.wide col c.requires.column.2.1 in
    let given = found_in col cells _ _ c.value.ensures c.in-Some.is in
    let filled =
    fills_given col cells skipped.cursor c.step.new.self below left c.in-Modified.ensures.step c.pass_deleted.ensures.cursor wide
    (value_of c.in-Some.value) c.skip_row.ensures.row given in
    fills_also col (rows_left skipped.cursor below) _ (rows_left c.step.new.self left) _ _ c.pass_deleted.ensures.rows
    (ap (λ (n : ℤ). n ∷ []) (sym c.number_of.ensures) ∙ sym (room_one c.args.out.now c.number_of.result (search rules) c.requires.some))
    filled

pub returns-in-None-clause-lawful : goal.returns-in-None-clause-lawful
returns-in-None-clause-lawful g c =
    let skipped = c.pass_deleted.new.self in
    let below = g.B.Numbers.left skipped.below in
    let left = g.B.Numbers.left c.fill.new.rows in
    let col = c.args.col in
    let cells = layer_cells c.in-Modified.modifies in
    let wide = c.pass_deleted.ensures.wide col c.requires.column.2.1 in
    let none = found_in col cells _ _ c.value.ensures c.in-None.is in
    let one : length c.fill.new.out ≡ 1 = omega (arith, c.fill.ensures.length, length-take 1 c.args.out.now, c.requires.some) in
    let filled =
    fills_below col cells skipped.cursor c.step.new.self below left c.in-Modified.ensures.step c.pass_deleted.ensures.cursor wide
    c.fill.new.out c.fill.ensures.numbers one none in
    (c.fill.ensures.lawful, filled.1)

pub returns-in-None-clause-column : goal.returns-in-None-clause-column
returns-in-None-clause-column g c = λ ty column.
    let skipped = c.pass_deleted.new.self in
    let col = c.args.col in (
      c.fill.ensures.column ty (c.pass_deleted.ensures.column ty col column.0),
      all_filled (IsWide col) col (g.B.Numbers.left skipped.below) (g.B.Numbers.left c.fill.new.rows) c.fill.new.out c.fill.ensures.numbers
          (c.pass_deleted.ensures.wide col column.1),
    )

pub returns-in-None-clause-numbers : goal.returns-in-None-clause-numbers
returns-in-None-clause-numbers g c =
    let skipped = c.pass_deleted.new.self in
    let below = g.B.Numbers.left skipped.below in
    let left = g.B.Numbers.left c.fill.new.rows in
    let col = c.args.col in
    let cells = layer_cells c.in-Modified.modifies in
    let wide = c.pass_deleted.ensures.wide col c.requires.column.2.1 in
    let none = found_in col cells _ _ c.value.ensures c.in-None.is in
    let one : length c.fill.new.out ≡ 1 = omega (arith, c.fill.ensures.length, length-take 1 c.args.out.now, c.requires.some) in
    let filled =
    fills_below col cells skipped.cursor c.step.new.self below left c.in-Modified.ensures.step c.pass_deleted.ensures.cursor wide
    c.fill.new.out c.fill.ensures.numbers one none in
    fills_also col (rows_left skipped.cursor below) _ (rows_left c.step.new.self left) _ _ c.pass_deleted.ensures.rows
    (sym (room_first c.fill.new.out (drop 1 c.args.out.now) one)) filled.0

pub returns-in-Kept-clause-column : goal.returns-in-Kept-clause-column
returns-in-Kept-clause-column g c = λ ty column.
    let skipped = c.pass_deleted.new.self in
    let col = c.args.col in (
      c.fill-in-Kept.ensures.column ty (c.pass_deleted.ensures.column ty col column.0),
      all_filled (IsWide col) col (g.B.Numbers.left skipped.below) (g.B.Numbers.left c.fill-in-Kept.new.rows) c.fill-in-Kept.new.out
          c.fill-in-Kept.ensures.numbers (c.pass_deleted.ensures.wide col column.1),
    )
