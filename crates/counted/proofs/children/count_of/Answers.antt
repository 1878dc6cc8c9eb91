use Rattle.std.proofs.Common.{◌+◌, arith}
use Rattle.counted.proofs.Places.{count-more, count_within}
use Rattle.counted.proofs.children.count_of.Goals as goal

pub overflow_add-count : goal.overflow_add-count
overflow_add-count c =
    let more = count-more c.args.children.now c.loop-child.child-index c.child-item.result c.requires.children c.loop-child-test.true in
    let next = count_within c.args.children.now (c.loop-child.child-index + 1) in
    grind (arith, c.child-item.is, more, next)
