use Rattle.std.proofs.Common.{◌+◌, ap, ◌∙◌, arith}
use Rattle.std.proofs.lemmas.Int.{ints}
use Rattle.model.specs.declared.entry.Entry.{Entry}
use Rattle.counted.specs.Sums.{weight_of}
use Rattle.counted.proofs.Totals.{total-more, total_take_within}
use Rattle.counted.proofs.leaf.total_of.Goals as goal

pub overflow_add-sum : goal.overflow_add-sum
overflow_add-sum c =
    let so_far = total_take_within c.args.entries.now c.loop-entry.entry-index in
    let more = total-more c.args.entries.now c.loop-entry.entry-index c.entry-item.result c.weight-sum.result c.loop-entry-test.true
    (c.weight-sum.ensures ∙ ap (λ (a : Entry). weight_of a.change) c.entry-item.is) in
    let next = total_take_within c.args.entries.now (c.loop-entry.entry-index + 1) in
    omega (arith, ints)

pub loop-entry-preserved : goal.loop-entry-preserved
loop-entry-preserved c =
    let so_far = total_take_within c.args.entries.now c.loop-entry.entry-index in
    let more = total-more c.args.entries.now c.loop-entry.entry-index c.entry-item.result c.weight-sum.result c.loop-entry-test.true
    (c.weight-sum.ensures ∙ ap (λ (a : Entry). weight_of a.change) c.entry-item.is) in
    let next = total_take_within c.args.entries.now (c.loop-entry.entry-index + 1) in
    omega (arith, ints)
