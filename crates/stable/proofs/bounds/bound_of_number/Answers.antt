use Rattle.std.proofs.Common.{◌+◌, ◌-◌, ◌/◌, ◌<◌, is_lt, length, map, sym, ap, ◌∙◌, arith, false, pos}
use Rattle.std.proofs.lemmas.List.{get_or-map}
use Rattle.values.specs.declared.value.Value.TheVariants.{Int, Bool as Truth}
use Rattle.stable.specs.Bounds.{is_before}
use Rattle.stable.proofs.BoundsLemmas.{lowered, raised}
use Rattle.stable.proofs.bounds.bound_of_number.Goals as goal

pub loop-low-preserved-then-is_lt : goal.loop-low-preserved-then-is_lt
loop-low-preserved-then-is_lt c =
    let low = c.loop-low.low in
    let high = c.loop-low.high in
    let middle = low + (high - low) / 2 in
    let within : middle < length c.args.numbers.now =
    omega (arith, c.loop-low-test.true, c.loop-low.invariant.within, c.requires.within) in
    raised (Int c.args.number.now) (map Int c.args.numbers.now) c.args.start c.args.stop c.requires.parted low high middle
    c.loop-low.invariant (omega arith) (omega (arith, c.loop-low-test.true))
    (ap (is_before (Int c.args.number.now)) (get_or-map Int c.args.numbers.now middle (pos 0) (Truth false) within)
    ∙ ap is_lt (sym c.cmp.ensures)
    ∙ sym c.is_lt.ensures
    ∙ c.if-is_lt.true)

pub loop-low-preserved : goal.loop-low-preserved
loop-low-preserved c =
    let low = c.loop-low.low in
    let high = c.loop-low.high in
    let middle = low + (high - low) / 2 in
    let within : middle < length c.args.numbers.now =
    omega (arith, c.loop-low-test.true, c.loop-low.invariant.within, c.requires.within) in
    lowered (Int c.args.number.now) (map Int c.args.numbers.now) c.args.start c.args.stop c.requires.parted low high middle
    c.loop-low.invariant (omega arith) (omega (arith, c.loop-low-test.true))
    (ap (is_before (Int c.args.number.now)) (get_or-map Int c.args.numbers.now middle (pos 0) (Truth false) within)
    ∙ ap is_lt (sym c.cmp.ensures)
    ∙ sym c.is_lt.ensures
    ∙ c.if-is_lt.false)
