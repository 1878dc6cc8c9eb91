use Rattle.std.proofs.Common.{◌≡◌, ◌+◌, ◌<◌, length, take, set, ap, ◌∙◌, arith, w64}
use Rattle.std.specs.Prelude.{ℤ}
use Rattle.std.proofs.lemmas.List.{length-set}
use Rattle.std.proofs.lemmas.Int.{to_z-of_z}
use Rattle.merge.specs.View.{row_of}
use Rattle.values.specs.Lent.{value_of}
use Rattle.pdt_c.specs.Cells.{number_of}
use Rattle.pdt_c.proofs.CellLemmas.{number_put, text_put}
use Rattle.pdt_c.proofs.shown_cells.put_row.Goals as goal

pub loop-col-preserved : goal.loop-col-preserved
loop-col-preserved c =
    let col = c.loop-col.col in
    let numbers = c.loop-col.numbers in
    let so_far = c.loop-col.invariant in
    let row = row_of c.args.view in
    let v = value_of c.value-value.result in
    let number : _ ≡ number_of v =
    to_z-of_z w64 c.number_of-number.result (record { sfits = c.number_of-number.type_inv }) ∙ c.number_of-number.ensures in
    let within : col < length numbers = omega (arith, so_far.0, c.loop-col-test.true, c.if-width-numbers.false) in (
      length-set numbers col _ ∙ so_far.0,
      c.put_bytes-end.ensures.length ∙ so_far.1,
      ap (λ (x : ℤ). take (col + 1) (set numbers col x)) number ∙ number_put numbers row col v within c.value-value.ensures so_far.2,
      λ room. text_put c.loop-col.texts c.put_bytes-end.new.texts row col v c.loop-col.bytes c.put_bytes-end.result c.value-value.ensures
          (so_far.3 (omega (arith, room, c.put_bytes-end.ensures.after))) (c.put_bytes-end.ensures.put (omega (arith, room, so_far.1))),
    )
