use Rattle.std.proofs.Common.{ap, ◌∙◌}
use Rattle.txn.specs.Txn.{Transaction}
use Rattle.txn.specs.Version.{lower_table}
use Rattle.test_snapshots.proofs.VersionLemmas.{tree_is_layer}
use Rattle.test_snapshots.proofs.transactions.stacks.tree_over.Goals as goal

pub returns : goal.returns
returns c =
    let opened = c.in_ok-txn.ensures in
    tree_is_layer c.args.version.layers.stable.schema (lower_table c.args.version.layers) c.make_all-made.new.txn
    c.into_parts-parts.result.tree c.into_parts-parts.ensures.lawful
    (c.make_all-made.ensures.schema ∙ ap (λ (t : Transaction). t.schema) opened)
    (c.make_all-made.ensures.table ∙ ap (λ (t : Transaction). t.table) opened)
    c.into_parts-parts.ensures.tree
