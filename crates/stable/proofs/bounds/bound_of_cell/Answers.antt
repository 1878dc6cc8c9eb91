use Rattle.std.proofs.Common.{◌+◌, ◌-◌, ◌/◌, ◌<◌, is_lt, length, sym, ap, ◌∙◌, arith, false}
use Rattle.std.proofs.lemmas.Option.{get_or_from_slice_get}
use Rattle.values.specs.Lent.{value_of}
use Rattle.values.specs.declared.value.Value.TheVariants.{Bool as Truth}
use Rattle.stable.specs.Bounds.{is_before}
use Rattle.stable.proofs.BoundsLemmas.{lowered, raised}
use Rattle.stable.proofs.bounds.bound_of_cell.Goals as goal

pub loop-low-preserved-then-is_lt : goal.loop-low-preserved-then-is_lt
loop-low-preserved-then-is_lt c =
    let low = c.loop-low.low in
    let high = c.loop-low.high in
    let middle = low + (high - low) / 2 in
    let within : middle < length c.args.block.now.values =
    omega (arith, c.loop-low-test.true, c.loop-low.invariant.within, c.requires.within) in
    raised (value_of c.args.cell) c.args.block.now.values c.args.start c.args.stop c.requires.parted low high middle
    c.loop-low.invariant (omega arith) (omega (arith, c.loop-low-test.true))
    (ap (is_before (value_of c.args.cell))
    (get_or_from_slice_get c.args.block.now.values middle (value_of c.get.result) (Truth false) c.get.ensures)
    ∙ ap is_lt (sym c.cmp.ensures)
    ∙ sym c.is_lt.ensures
    ∙ c.if-is_lt.true)

pub loop-low-preserved : goal.loop-low-preserved
loop-low-preserved c =
    let low = c.loop-low.low in
    let high = c.loop-low.high in
    let middle = low + (high - low) / 2 in
    let within : middle < length c.args.block.now.values =
    omega (arith, c.loop-low-test.true, c.loop-low.invariant.within, c.requires.within) in
    lowered (value_of c.args.cell) c.args.block.now.values c.args.start c.args.stop c.requires.parted low high middle
    c.loop-low.invariant (omega arith) (omega (arith, c.loop-low-test.true))
    (ap (is_before (value_of c.args.cell))
    (get_or_from_slice_get c.args.block.now.values middle (value_of c.get.result) (Truth false) c.get.ensures)
    ∙ ap is_lt (sym c.cmp.ensures)
    ∙ sym c.is_lt.ensures
    ∙ c.if-is_lt.false)
