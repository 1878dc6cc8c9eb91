use Rattle.std.proofs.Common.{arith, take, refl, sym}
use Rattle.std.proofs.lemmas.Int.{ints}
use Rattle.counted.specs.Shapes.{all_items}
use Rattle.counted.proofs.Descents.{get_or_some, below_child, below_moved, below_within}
use Rattle.counted.proofs.Places.{child_fits}
use Rattle.counted.proofs.Totals.{total_within}
use Rattle.counted.proofs.spot.Above.child.Goals as goal

pub overflow_add-result : goal.overflow_add-result
overflow_add-result c =
    let few = c.requires.below.1 in
    let here = c.requires.below.2.here.within in
    let fits = child_fits c.args.children.now c.args.at (get_or_some c.args.children.now c.args.at c.requires.within) c.requires.within in
    omega (arith, c.sums_before-count.ensures.count)

pub overflow_add-result-2 : goal.overflow_add-result-2
overflow_add-result-2 c =
    let few = c.requires.below.1 in
    let here = c.requires.below.2.here.within in
    let fits = child_fits c.args.children.now c.args.at (get_or_some c.args.children.now c.args.at c.requires.within) c.requires.within in
    let w = below_within _ _ _ _ _ c.requires.below.2 in
    let v = total_within (all_items (take c.args.at c.args.children.now)) in
    omega (arith, ints, w.above, w.below, v.above, v.below, c.sums_before-count.ensures.net)

pub returns-clause-shift : goal.returns-clause-shift
returns-clause-shift c =
    let few = c.requires.below.1 in
    let here = c.requires.below.2.here.within in
    let fits = child_fits c.args.children.now c.args.at (get_or_some c.args.children.now c.args.at c.requires.within) c.requires.within in
    let w = below_within _ _ _ _ _ c.requires.below.2 in
    let v = total_within (all_items (take c.args.at c.args.children.now)) in
    omega (arith, ints, w.above, w.below, v.above, v.below, c.sums_before-count.ensures.net)

pub returns-clause-below : goal.returns-clause-below
returns-clause-below c = λ items d b.
    below_moved _ _ _ _ _ _ _ _ (omega (arith, c.sums_before-count.ensures.count)) (sym (returns-clause-shift c)) refl
    (below_child _ _ _ _ _ _ _ d c.requires.children c.requires.within b c.lead_behind.ensures.more c.lead_behind.ensures.last)
