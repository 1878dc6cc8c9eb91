use Rattle.std.proofs.Common.{◌+◌, ◌<◌, length, ap, ◌∙◌, arith, length-take}
use Rattle.std.proofs.lemmas.Int.{ints}
use Rattle.std.proofs.lemmas.List.{get_or-take}
use Rattle.counted.specs.declared.node.Child.{Child}
use Rattle.counted.proofs.Places.{total_items-more, total_items_within, count-more, count_within}
use Rattle.counted.proofs.children.sums_before.Goals as goal

pub overflow_add-count : goal.overflow_add-count
overflow_add-count c =
    let i = c.loop-child.child-index in
    let d = c.child-item.result in
    let here : i < c.args.index = omega (arith, c.loop-child-test.true, length-take c.args.index c.args.children.now) in
    let lt : i < length c.args.children.now = omega (arith, c.requires.within) in
    let more = count-more c.args.children.now i d c.requires.children lt in
    let next = count_within c.args.children.now (i + 1) in
    let same = ap (λ (x : Child). x.count) (c.child-item.is ∙ get_or-take c.args.index c.args.children.now i d here) in
    omega (arith, c.requires.few)

pub overflow_add-net : goal.overflow_add-net
overflow_add-net c =
    let i = c.loop-child.child-index in
    let d = c.child-item.result in
    let here : i < c.args.index = omega (arith, c.loop-child-test.true, length-take c.args.index c.args.children.now) in
    let lt : i < length c.args.children.now = omega (arith, c.requires.within) in
    let more = total_items-more c.args.children.now i d c.requires.children lt in
    let next = total_items_within c.args.children.now (i + 1) in
    let same = ap (λ (x : Child). x.net) (c.child-item.is ∙ get_or-take c.args.index c.args.children.now i d here) in
    omega (arith, ints, c.requires.few)

pub loop-child-preserved : goal.loop-child-preserved
loop-child-preserved c =
    let i = c.loop-child.child-index in
    let d = c.child-item.result in
    let here : i < c.args.index = omega (arith, c.loop-child-test.true, length-take c.args.index c.args.children.now) in
    let lt : i < length c.args.children.now = omega (arith, c.requires.within) in
    let counted = count-more c.args.children.now i d c.requires.children lt in
    let most = count_within c.args.children.now (i + 1) in
    let more = total_items-more c.args.children.now i d c.requires.children lt in
    let next = total_items_within c.args.children.now (i + 1) in
    let same = c.child-item.is ∙ get_or-take c.args.index c.args.children.now i d here in
    let one = ap (λ (x : Child). x.count) same in
    let two = ap (λ (x : Child). x.net) same in
    record { count = omega (arith, c.requires.few); net = omega (arith, ints, c.requires.few) }
