use Rattle.std.proofs.Common.{◌≡◌, sym, ap, ◌∙◌, subst}
use Rattle.stable.specs.Stable.{IsStable}
use Rattle.txn.specs.Version.{Lower, LayeredVersion, TableVersion, alone, numbered, table_version}
use Rattle.txn.proofs.CallerLemmas.{version_of-alone}
use Rattle.manager.specs.Kept.{AreFolded}
use Rattle.manager.specs.Managed.{newest_number, newest_stable}
use Rattle.manager.proofs.GrantLemmas.{alone_folded}
use Rattle.manager.proofs.CheckpointLemmas.{version_at-newest}
use Rattle.manager.proofs.KeptLemmas.{holds}
use Rattle.manager.proofs.CutLemmas.{newest_IsTable}
use Rattle.manager.proofs.manager.Manager.prepare_checkpoint.Goals as goal

pub returns : goal.returns
returns c =
    let i = c.self.inside in
    let m = c.args.self.now in
    let table : c.in_ok-table.table ≡ newest_stable m =
    c.in_ok-table.ensures ∙ (λ j. record { schema = c.newest.ensures.schema j; rows = c.newest.ensures.rows j }) in
    let stable : c.in_ok-stable.stable.value ≡ newest_stable m = c.in_ok-stable.ensures.ok ∙ table in
    let lawful : IsStable (newest_stable m) = subst IsStable stable c.in_ok-version.ensures.lawful in
    let h = holds c.self.view_is c.self.invariant.0 in
    let number : c.number.result ≡ newest_number m = c.number.ensures ∙ ap (λ (v : TableVersion). v.number) h.newest_is in
    let version : c.in_ok-version.version ≡ numbered (alone (newest_stable m)) (newest_number m) =
    c.in_ok-version.ensures.version ∙ (λ j. numbered (alone (stable j)) (number j)) in
    let layers = ap (λ (v : LayeredVersion). v.layers) version in
    record {
      lawful = subst AreFolded (sym layers) (alone_folded (newest_stable m) lawful);
      emptied = layers;
      version_is =
          ap table_version version
          ∙ version_of-alone (newest_stable m) (newest_number m)
          ∙ version_at-newest m (newest_IsTable m i.newest.layers i.newest i.kept.items h);
      layers_are = version ∙ sym (ap (λ (e : Lower). numbered e (newest_number m)) layers);
    }
