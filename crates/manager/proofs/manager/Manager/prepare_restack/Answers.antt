use Rattle.std.proofs.Common.{◌≡◌, refl, ap, sym, ◌∙◌, subst}
use Rattle.values.specs.Shape.{Columns}
use Rattle.stable.specs.Stable.{Stable, IsStable}
use Rattle.txn.specs.Version.{Lower, LayeredVersion, TableVersion, numbered, version_of, empty_tree}
use Rattle.manager.specs.Managed.{Managed, newest_number}
use Rattle.manager.specs.Restacked.{IsRestacked, restacked, stable_below}
use Rattle.manager.specs.Kept.{AreFolded}
use Rattle.manager.proofs.KeptLemmas.{holds}
use Rattle.manager.proofs.RestackLemmas.{restacked_folded, restacked_version}
use Rattle.manager.proofs.manager.Manager.prepare_restack.Goals.{After-number}
use Rattle.manager.proofs.manager.Manager.prepare_restack.Goals as goal

-- the layers that were made are the Write-PDT over the table below it
made : (c : After-number) →
    let m = c.args.self.now in
    let new : Lower = record { stable = c.in_ok-stable.stable.value; read = c.in_ok-read.read.value; write = c.in_ok-write.write.value } in
    IsRestacked m (record { layers = new; version = numbered new (newest_number m) })
made c =
    let i = c.self.inside in
    let l = i.newest.layers in
    let m = c.args.self.now in
    let h = holds c.self.view_is c.self.invariant.0 in
    let new : Lower = record { stable = c.in_ok-stable.stable.value; read = c.in_ok-read.read.value; write = c.in_ok-write.write.value } in
    let layers : l ≡ m.layers = ap (λ (v : Managed). v.layers) c.self.view_is in
    let below : c.args.table.now.value ≡ stable_below l = c.requires.below ∙ sym (ap stable_below layers) in
    let lent : c.deref.result.now ≡ stable_below l = c.deref.ensures ∙ below in
    let lawful : IsStable (stable_below l) = subst IsStable lent c.schema.ensures.lawful in
    let key_cols : c.key_cols.result ≡ l.stable.schema.key_cols =
    c.key_cols.ensures.count ∙ ap (λ (s : Columns). s.key_cols) c.schema.ensures.columns ∙ ap (λ (s : Stable). s.schema.key_cols) lent in
    let read : new.read ≡ empty_tree l.stable.schema.key_cols =
    c.in_ok-read.ensures.ok ∙ c.new.ensures ∙ c.new-none.ensures ∙ ap empty_tree key_cols in
    let stable : new.stable ≡ stable_below l = c.in_ok-stable.ensures.cases ∙ below in
    let write : new.write ≡ l.write = c.in_ok-write.ensures.cases ∙ c.write_tree.ensures in
    let stacked : new ≡ restacked l = λ j. record { stable = stable j; read = read j; write = write j } in
    record {
      lawful = subst AreFolded (sym stacked) (restacked_folded m l i.newest i.kept.items h lawful);
      moved = stacked ∙ ap restacked layers;
      version_is =
          ap (λ (e : Lower). version_of e (newest_number m)) stacked
          ∙ restacked_version m l i.newest i.kept.items h lawful (newest_number m);
      layers_are = refl;
    }

pub stacked-requires : goal.stacked-requires
stacked-requires c = (made c).lawful.lower

pub returns : goal.returns
returns c =
    let new : Lower = record { stable = c.in_ok-stable.stable.value; read = c.in_ok-read.read.value; write = c.in_ok-write.write.value } in
    let h = holds c.self.view_is c.self.invariant.0 in
    let number = c.number.ensures ∙ ap (λ (v : TableVersion). v.number) h.newest_is in
    subst (λ (v : LayeredVersion). IsRestacked c.args.self.now (record { layers = v.layers; version = v }))
    (sym (c.in_ok-version.ensures ∙ ap (numbered new) number)) (made (goal.at.returns c).After-number)
