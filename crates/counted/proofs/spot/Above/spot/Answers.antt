use Rattle.std.proofs.Common.{arith, take, refl, length-take, length-drop}
use Rattle.std.proofs.lemmas.List.{take_all}
use Rattle.std.proofs.lemmas.Int.{ints}
use Rattle.counted.proofs.Descents.{below_within, spot_at}
use Rattle.counted.proofs.Totals.{total_within}
use Rattle.counted.proofs.spot.Above.spot.Goals as goal

pub overflow_add-result-2 : goal.overflow_add-result-2
overflow_add-result-2 c =
    let few = c.requires.below.1 in
    let here = c.requires.below.2.here.within in
    let w = below_within _ _ _ _ _ c.requires.below.2 in
    let v = total_within (take c.args.at c.args.entries.now) in
    omega (arith, ints, w.above, w.below, v.above, v.below, length-take c.args.at c.args.entries.now)

pub returns-clause-at : goal.returns-clause-at
returns-clause-at c = λ items b.
    let few = c.requires.below.1 in
    let here = c.requires.below.2.here.within in
    let w = below_within _ _ _ _ _ c.requires.below.2 in
    let v = total_within (take c.args.at c.args.entries.now) in
    spot_at _ _ _ _ c.args.entries.now _ _ c.args.at _ _ _ c.requires.within b refl refl
    (omega (arith, ints, w.above, w.below, v.above, v.below, length-take c.args.at c.args.entries.now, c.total_of.ensures))
    (take_all _ _ (omega (arith, length-drop c.args.at c.args.entries.now))) c.lead_or.ensures.lead c.lead_or.ensures.next
