use Rattle.std.proofs.Common.{◌+◌, ap, arith}
use Rattle.std.proofs.lemmas.Int.{ints}
use Rattle.counted.proofs.Places.{total_items-more, total_items_within}
use Rattle.counted.proofs.children.net_of.Goals as goal

pub overflow_add-net : goal.overflow_add-net
overflow_add-net c =
    let more =
    total_items-more c.args.children.now c.loop-child.child-index c.child-item.result c.requires.children
    c.loop-child-test.true in
    let next = total_items_within c.args.children.now (c.loop-child.child-index + 1) in
    let same = ap (λ x. x.net) c.child-item.is in
    omega (arith, ints, c.requires.few)

pub loop-child-preserved : goal.loop-child-preserved
loop-child-preserved c =
    let more =
    total_items-more c.args.children.now c.loop-child.child-index c.child-item.result c.requires.children
    c.loop-child-test.true in
    let next = total_items_within c.args.children.now (c.loop-child.child-index + 1) in
    let same = ap (λ x. x.net) c.child-item.is in
    omega (arith, ints, c.requires.few)
