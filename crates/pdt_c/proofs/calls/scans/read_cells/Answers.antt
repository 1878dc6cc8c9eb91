use Rattle.std.proofs.Common.{◌≡◌, ◌∷◌, ◌+◌, ◌<◌, false, length, take, drop, set, ap, ◌∙◌, arith, w64}
use Rattle.std.specs.Prelude.{ℤ}
use Rattle.std.proofs.lemmas.List.{length-set}
use Rattle.std.proofs.lemmas.Int.{to_z-of_z}
use Rattle.std.proofs.lemmas.Option.{get_or_from_slice_get}
use Rattle.merge.specs.View.{row_of}
use Rattle.values.specs.Lent.{value_of}
use Rattle.values.specs.declared.value.Value.TheVariants.{Bool as Truth}
use Rattle.stable.specs.Rows.{column_values}
use Rattle.pdt_c.specs.Cells.{number_of}
use Rattle.pdt_c.specs.Reads.{column_from}
use Rattle.pdt_c.proofs.CellLemmas.{next_within, next_is, next_rest, number_put, text_put}
use Rattle.pdt_c.proofs.calls.scans.read_cells.Goals as goal

pub loop-rows-preserved : goal.loop-rows-preserved
loop-rows-preserved c =
    let col = c.args.col in
    let cells = column_from c.args.txn.now col c.args.from in
    let i = c.loop-rows.rows in
    let so_far = c.loop-rows.invariant in
    let row = row_of c.in-Some.view in
    let v = value_of c.value-value.result in
    let rest = column_values col c.next.new.self in
    let left : drop i cells ≡ v ∷ rest =
    so_far.5
    ∙ ap (column_values col) c.in-Some.ensures.steps
    ∙ ap (λ x. x ∷ rest) (get_or_from_slice_get row col v (Truth false) c.value-value.ensures) in
    let number : _ ≡ number_of v =
    to_z-of_z w64 c.number_of-number.result (record { sfits = c.number_of-number.type_inv }) ∙ c.number_of-number.ensures in
    let within : i < length c.loop-rows.numbers = omega (arith, so_far.0, c.loop-rows-test.true) in (
      length-set c.loop-rows.numbers i _ ∙ so_far.0,
      c.put_bytes-next.ensures.length ∙ so_far.1,
      omega (arith, c.if-next-texts.false, c.put_bytes-next.ensures.length, so_far.1),
      omega (arith, c.loop-rows-test.true),
      omega (arith, next_within cells i v rest left),
      next_rest cells i v rest left,
      ap (λ (x : ℤ). take (i + 1) (set c.loop-rows.numbers i x)) number
          ∙ number_put c.loop-rows.numbers cells i v within (next_is cells i v rest left) so_far.6,
      text_put c.loop-rows.texts c.put_bytes-next.new.texts cells i v c.loop-rows.end c.put_bytes-next.result
          (next_is cells i v rest left) so_far.7
          (c.put_bytes-next.ensures.put (omega (arith, c.if-next-texts.false, c.put_bytes-next.ensures.length))),
    )
