use Rattle.std.proofs.Common.{◌<◌, length, subst}
use Rattle.values.specs.Shape.{IsSchema}
use Rattle.stable.specs.Stable.{Stable}
use Rattle.test_snapshots.proofs.FoldLemmas.{aligned_layers}
use Rattle.test_snapshots.proofs.pairs.passed.Goals as goal

pub serialize-requires : goal.serialize-requires
serialize-requires c =
    let s = c.args.stable.now.value in
    let few = c.if-not-are_few.false in
    let lawful = subst (λ (t : Stable). IsSchema t.schema) c.deref.ensures c.are_few.ensures.lawful in
    let rows = subst (λ (t : Stable). length t.rows < 1000000) c.deref.ensures (c.are_few.ensures.rows few) in
    aligned_layers s lawful rows c.args.x.now c.args.y.now c.requires.first c.requires.second (c.are_few.ensures.one few)
    (c.are_few.ensures.other few)
