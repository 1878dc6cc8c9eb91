use Rattle.std.proofs.Common.{◌≡◌, refl, ap, sym, ◌∙◌, subst}
use Rattle.delta.specs.Tree.{Tree}
use Rattle.layers.specs.Over.{AreConsecutive}
use Rattle.layers.specs.Propagation.{composed_tree}
use Rattle.txn.specs.Version.{Lower, LayeredVersion, TableVersion, numbered, version_of, empty_tree}
use Rattle.manager.specs.Managed.{Managed, newest_number}
use Rattle.manager.specs.Layered.{IsFolded}
use Rattle.manager.specs.Layers.{AreMerged}
use Rattle.manager.specs.Kept.{AreFolded}
use Rattle.manager.proofs.FoldLemmas.{stacked_trees, merged_in, merged, merged_folded, merged_version}
use Rattle.manager.proofs.KeptLemmas.{holds}
use Rattle.manager.proofs.manager.Manager.prepare_fold.Goals.{After-number}
use Rattle.manager.proofs.manager.Manager.prepare_fold.Goals as goal

pub propagate-requires : goal.propagate-requires
propagate-requires c =
    let i = c.self.inside in
    let h = holds c.self.view_is c.self.invariant.0 in
    let read = c.read_tree.ensures in
    let write = c.deref.ensures ∙ c.write_tree.ensures in
    subst (λ (e : Tree × Tree). AreConsecutive e.0 e.1) (sym (λ j. (read j, write j)))
    (stacked_trees c.args.self.now i.newest.layers i.newest i.kept.items h)

-- the layers that were made are those of a fold
made : (c : After-number) →
    let m = c.args.self.now in
    let new : Lower = record { stable = c.in_ok-stable.stable.value; read = c.in_ok-read.read.value; write = c.in_ok-write.write.value } in
    IsFolded m (record { layers = new; version = numbered new (newest_number m) })
made c =
    let i = c.self.inside in
    let l = i.newest.layers in
    let m = c.args.self.now in
    let h = holds c.self.view_is c.self.invariant.0 in
    let new : Lower = record { stable = c.in_ok-stable.stable.value; read = c.in_ok-read.read.value; write = c.in_ok-write.write.value } in
    let two = stacked_trees m l i.newest i.kept.items h in
    let read : new.read ≡ composed_tree l.read l.write two =
    c.in_ok-read.ensures.ok
    ∙ c.new.ensures
    ∙ merged_in c.read_tree.result.now c.deref.result.now l.read l.write c.in_ok-tree.tree c.read_tree.ensures
    (c.deref.ensures ∙ c.write_tree.ensures) c.in_ok-tree.ensures two in
    let key_cols : c.key_cols.result ≡ l.stable.schema.key_cols =
    c.key_cols.ensures ∙ ap (λ (t : Tree). t.key_cols) (c.deref-2.ensures ∙ c.write_tree-2.ensures) ∙ h.folded.lower.middle.key_cols in
    let write : new.write ≡ empty_tree l.stable.schema.key_cols =
    c.in_ok-write.ensures.ok ∙ c.new-none.ensures ∙ ap empty_tree key_cols in
    let stable : new.stable ≡ l.stable = c.in_ok-stable.ensures.cases ∙ c.stable.ensures in
    let stacked : new ≡ merged m l i.newest i.kept.items h new.read read =
    λ j. record { stable = stable j; read = new.read; write = write j } in
    record {
      lawful = subst AreFolded (sym stacked) (merged_folded m l i.newest i.kept.items h new.read read);
      merged =
          subst (λ (e : Lower). AreMerged e new) (ap (λ (v : Managed). v.layers) c.self.view_is)
          (record { lawful = h.folded.lower; stable = stable; read = read; write = write });
      version_is =
          ap (λ (e : Lower). version_of e (newest_number m)) stacked
          ∙ merged_version m l i.newest i.kept.items h new.read read (newest_number m);
      layers_are = refl;
    }

pub stacked-requires : goal.stacked-requires
stacked-requires c = (made c).lawful.lower

pub returns : goal.returns
returns c =
    let new : Lower = record { stable = c.in_ok-stable.stable.value; read = c.in_ok-read.read.value; write = c.in_ok-write.write.value } in
    let h = holds c.self.view_is c.self.invariant.0 in
    let number = c.number.ensures ∙ ap (λ (v : TableVersion). v.number) h.newest_is in
    subst (λ (v : LayeredVersion). IsFolded c.args.self.now (record { layers = v.layers; version = v }))
    (sym (c.in_ok-version.ensures ∙ ap (numbered new) number)) (made (goal.at.returns c).After-number)
