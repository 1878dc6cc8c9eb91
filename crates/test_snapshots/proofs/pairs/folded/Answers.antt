use Rattle.std.proofs.Common.{◌<◌, length, refl, ap, subst}
use Rattle.values.specs.Shape.{IsSchema}
use Rattle.stable.specs.Stable.{Stable}
use Rattle.txn.specs.Version.{Lower, version_of, empty_tree, table_version}
use Rattle.test_snapshots.proofs.VersionLemmas.{two_layers, layer_of_version}
use Rattle.test_snapshots.proofs.FoldLemmas.{stacked_layers}
use Rattle.test_snapshots.proofs.pairs.folded.Goals as goal

pub propagate-requires : goal.propagate-requires
propagate-requires c =
    let s = c.args.stable.now.value in
    let lower = c.args.lower.now in
    let upper = c.in_ok-upper.upper.tree in
    let l : Lower = record { stable = s; read = lower; write = empty_tree s.schema.key_cols } in
    let above =
    layer_of_version (table_version c.in_ok-image.image) (version_of l 1) upper upper (ap table_version c.in_ok-image.ensures)
    refl c.in_ok-upper.ensures in
    let few = c.if-not-are_few.false in
    let rows = c.are_few.ensures.rows few in
    let lawful = subst (λ (t : Stable). IsSchema t.schema) c.deref.ensures c.are_few.ensures.lawful in
    stacked_layers s lawful (subst (λ (t : Stable). length t.rows < 1000000) c.deref.ensures rows) lower upper
    (two_layers s l upper refl refl c.requires above) (c.are_few.ensures.one few) (c.are_few.ensures.other few)
