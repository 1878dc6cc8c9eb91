use Rattle.std.proofs.Common.{◌≡◌, sym, ap, ◌∙◌, subst}
use Rattle.manager.specs.Managed.{Managed, HasFolded}
use Rattle.manager.proofs.CallerLemmas.{has_folded}
use Rattle.publishing.specs.Lists.{IsListed, IsShownAgain, layered_version}
use Rattle.txn.specs.Version.{LayeredVersion}
use Rattle.publishing.proofs.CallerLemmas.{listed_over}
use Rattle.shared.specs.Endings.{GoesOn}
use Rattle.shared.specs.Stands.{Stand}
use Rattle.shared.proofs.EndingLemmas.{goes_on-over}
use Rattle.shared.proofs.locked.Locked.fold.Goals as goal

pub invariant_of-self-2 : goal.invariant_of-self-2
invariant_of-self-2 g c =
    let o = g.O.Opening.opened.manager in
    let i = c.self.invariant in
    let m = c.self.inside.manager in
    let layers = c.in_ok-folded.folded.layers in
    let shown = c.in_ok-show_same.ensures in
    let list = c.show_same.new.self in
    let next = c.install_fold.ensures in (
      subst (λ (n : Managed). IsListed o list n) (sym next) (listed_over o list m layers shown.listed),
      ap (λ (n : Managed). n.made) next ∙ i.1,
      i.2,
      i.3 ∙ sym (ap (λ (n : Managed). n.schema) next),
      subst (λ (n : Managed). GoesOn o n) (sym next) (goes_on-over o m i.4 layers),
    )

pub returns-clause-manager : goal.returns-clause-manager
returns-clause-manager g c =
    subst (λ (s : Stand). HasFolded s.manager c.install_fold.new.self) c.self.view_is
    (has_folded c.self.inside.manager c.install_fold.new.self c.in_ok-folded.folded c.in_ok-folded.ensures c.install_fold.ensures)

pub returns-clause-list : goal.returns-clause-list
returns-clause-list g c =
    let shown = c.in_ok-show_same.ensures.list in
    let new = c.install_fold.new.self in
    let version : c.version.result.now ≡ layered_version new =
    c.version.ensures ∙ c.in_ok-folded.ensures.layers_are ∙ sym (ap layered_version c.install_fold.ensures) in
    subst (λ (s : Stand). IsShownAgain s.list (layered_version new) c.show_same.new.self) c.self.view_is
    (subst (λ (v : LayeredVersion). IsShownAgain c.self.inside.publisher v c.show_same.new.self) version shown)
