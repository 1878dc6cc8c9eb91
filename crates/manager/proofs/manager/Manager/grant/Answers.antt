use Rattle.std.proofs.Common.{◌≡◌, ◌+◌, suc, refl, ap, sym, ◌∙◌, subst, arith}
use Rattle.delta.specs.Tree.{Tree}
use Rattle.layers.specs.Over.{AreConsecutive}
use Rattle.layers.specs.Propagation.{composed_tree}
use Rattle.txn.specs.Version.{Lower, LayeredVersion, TableVersion, numbered, version_of}
use Rattle.manager.specs.Managed.{Managed, newest_number}
use Rattle.manager.specs.Layers.{AreWritten}
use Rattle.manager.specs.Kept.{AreFolded}
use Rattle.manager.specs.Prepared.{MayGrant, IsGrant}
use Rattle.manager.proofs.HistoryLemmas.{number_fits}
use Rattle.manager.proofs.GrantLemmas.{consecutive, folded_in, next_folded, next_version}
use Rattle.manager.proofs.KeptLemmas.{holds}
use Rattle.manager.proofs.manager.Manager.grant.Goals.{After-number-number}
use Rattle.manager.proofs.manager.Manager.grant.Goals as goal

pub propagate-requires : goal.propagate-requires
propagate-requires c =
    let i = c.self.inside in
    let w = c.requires in
    let h = holds c.self.view_is c.self.invariant.0 in
    subst (λ (t : Tree). AreConsecutive t c.args.tree) (sym (c.deref.ensures ∙ c.write_tree.ensures))
    (consecutive c.args.self.now i.newest.layers i.newest i.kept.items h w.x w.over w.room c.args.tree w.tree_is)

-- the next number
next : (c : After-number-number) → c.number-number.result + 1 ≡ suc (newest_number c.args.self.now)
next c =
    let h = holds c.self.view_is c.self.invariant.0 in
    omega (arith, ap (λ (v : TableVersion). v.number) h.newest_is, c.number-number.ensures)

pub overflow_add-number : goal.overflow_add-number
overflow_add-number c =
    let h = holds c.self.view_is c.self.invariant.0 in
    let few = h.lawful.few in
    omega (arith, next c, number_fits c.args.self.now h.lawful, few)

-- the layers that were made are the next ones, whichever effects the tree is of
made : (c : After-number-number) (w : MayGrant c.args.self.now c.args.tree) →
    let new : Lower = record { stable = c.in_ok-stable.stable.value; read = c.in_ok-read.read.value; write = c.in_ok-write.write.value } in
    IsGrant c.args.self.now w.x
    (record { tree = c.args.tree; layers = new; version = numbered new (suc (newest_number c.args.self.now)) })
made c w =
    let i = c.self.inside in
    let l = i.newest.layers in
    let m = c.args.self.now in
    let h = holds c.self.view_is c.self.invariant.0 in
    let new : Lower = record { stable = c.in_ok-stable.stable.value; read = c.in_ok-read.read.value; write = c.in_ok-write.write.value } in
    let two = consecutive m l i.newest i.kept.items h w.x w.over w.room c.args.tree w.tree_is in
    let write : new.write ≡ composed_tree l.write c.args.tree two =
    c.in_ok-write.ensures.ok
    ∙ folded_in c.deref.result.now l.write c.args.tree c.in_ok-propagate.field-0 (c.deref.ensures ∙ c.write_tree.ensures)
    c.in_ok-propagate.ensures two in
    let stable : new.stable ≡ l.stable = c.in_ok-stable.ensures.cases ∙ c.stable.ensures in
    let read : new.read ≡ l.read = c.in_ok-read.ensures.cases ∙ c.read.ensures in
    let stacked : new ≡ record l { write = new.write } = λ j. record { stable = stable j; read = read j; write = new.write } in
    record {
      tree_is = w.tree_is;
      folded =
          subst AreFolded (sym stacked)
          (next_folded m l i.newest i.kept.items h w.x w.over w.room c.args.tree w.tree_is new.write write);
      written =
          subst (λ (e : Lower). AreWritten e w.x new) (ap (λ (v : Managed). v.layers) c.self.view_is)
          (record { lawful = h.folded.lower; stable = stable; read = read; write = write });
      version_is =
          ap (λ (e : Lower). version_of e (suc (newest_number m))) stacked
          ∙ next_version m l i.newest i.kept.items h w.x w.over w.room c.args.tree w.tree_is new.write write (suc (newest_number m));
      layers_are = refl;
    }

pub stacked-requires : goal.stacked-requires
stacked-requires c = (made (goal.at.stacked-requires c).After-number-number c.requires).folded.lower

pub returns : goal.returns
returns c = λ w.
    let before = (goal.at.returns c).After-number-number in
    let new : Lower = record { stable = c.in_ok-stable.stable.value; read = c.in_ok-read.read.value; write = c.in_ok-write.write.value } in
    subst (λ (v : LayeredVersion). IsGrant c.args.self.now w.x (record { tree = c.args.tree; layers = v.layers; version = v }))
    (sym (c.in_ok-version.ensures ∙ ap (numbered new) (next before))) (made before w)
