use Rattle.std.proofs.Common.{refl, ap, ◌∙◌}
use Rattle.stable.specs.Stable.{Stable}
use Rattle.txn.specs.Version.{table_version, version_at}
use Rattle.txn.proofs.CallerLemmas.{version_of-alone}
use Rattle.test_snapshots.proofs.VersionLemmas.{layer_of_version}
use Rattle.test_snapshots.proofs.pairs.written_over.Goals as goal

pub returns : goal.returns
returns c =
    let s = c.args.stable.now.value in
    let opened =
    ap table_version c.in_ok-opening.ensures.version
    ∙ version_of-alone c.in_ok-clone.field-0.value 0
    ∙ ap (λ (t : Stable). version_at t 0) c.in_ok-clone.ensures.cases in
    let tree = c.in_ok-written.field-0.tree in
    layer_of_version (table_version c.in_ok-opening.opening) (version_at s 0) tree tree opened refl c.in_ok-written.ensures
