use Rattle.std.proofs.Common.{ap, sym, ◌∙◌, arith}
use Rattle.std.proofs.lemmas.Int.{ints}
use Rattle.counted.specs.Views.{View}
use Rattle.counted.proofs.InPlace.{leaf_split}
use Rattle.counted.proofs.Places.{at_leaf}
use Rattle.counted.proofs.Totals.{weight_within}
use Rattle.counted.proofs.node.in_place.split_of.Goals as goal

pub returns-in-Ok : goal.returns-in-Ok
returns-in-Ok c =
    let at = at_leaf c.behind-children.view_is c.behind-children.invariant c.in-Some-Leaf.is-1 in
    let made = c.in-Ok.ensures in
    leaf_split c.args.children.now _ c.args.index c.args.at c.args.gone c.args.put.now c.in-Some-Leaf.entry
    c.deref-in-Some-Leaf.result.now
    c.index-children-index.result _ c.requires.children c.requires.index c.in-Some-Leaf.is-0
    (sym (ap (λ (v : View). v.items) c.deref.ensures) ∙ at.items ∙ sym c.deref-in-Some-Leaf.ensures.value)
    (sym (ap (λ (v : View). v.depth) c.deref.ensures) ∙ at.depth)
    (omega (arith, c.if-gone-gt0.false)) (omega (arith, c.if-children-ge-MAX_WIDTH.false)) (let small = weight_within c.in-Some-Leaf.entry.change in let net = c.weight.ensures in omega (arith, ints))
    made.items made.one_more made.not_fewer made.each
