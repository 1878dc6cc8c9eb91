use Rattle.std.proofs.Common.{ap, ◌∙◌}
use Rattle.txn.specs.Txn.{Transaction}
use Rattle.txn.specs.Version.{lower_table}
use Rattle.test_snapshots.proofs.VersionLemmas.{tree_is_layer}
use Rattle.test_snapshots.proofs.pairs.written.Goals as goal

pub returns : goal.returns
returns c =
    let opened = c.in_ok-txn.ensures in
    let all = c.answer_all-answered in
    let parts = c.into_parts-parts in
    tree_is_layer c.args.version.layers.stable.schema (lower_table c.args.version.layers) all.new.txn parts.result.tree parts.ensures.lawful
    (all.ensures.schema ∙ ap (λ (t : Transaction). t.schema) opened)
    (all.ensures.table ∙ ap (λ (t : Transaction). t.table) opened)
    parts.ensures.tree
