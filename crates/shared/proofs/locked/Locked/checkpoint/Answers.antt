use Rattle.std.proofs.Common.{◌≡◌, refl, sym, ap, ◌∙◌, subst}
use Rattle.std.specs.Prelude.{MatchResult}
use Rattle.txn.specs.Version.{LayeredVersion, Lower, alone, numbered}
use Rattle.manager.specs.Managed.{Managed, newest_number, newest_stable, rebuilt_of}
use Rattle.publishing.specs.Lists.{IsListed, IsShownAgain, layered_version}
use Rattle.publishing.proofs.CallerLemmas.{listed_over}
use Rattle.shared.specs.Endings.{GoesOn}
use Rattle.shared.specs.Stands.{IsShownBefore, Stand}
use Rattle.shared.proofs.EndingLemmas.{goes_on-over}
use Rattle.shared.proofs.ShowLemmas.{either_way, shown_before}
use Rattle.shared.proofs.locked.Locked.checkpoint.Goals as goal

pub invariant_of-self-2 : goal.invariant_of-self-2
invariant_of-self-2 g c =
    let o = g.O.Opening.opened.manager in
    let i = c.self.invariant in
    let m = c.self.inside.manager in
    let shown = c.in_ok-show_same.ensures in
    let list = c.show_same.new.self in
    let layers = alone (newest_stable m) in
    let Kept = λ (n : Managed). IsListed o list n × (n.made ≡ m.made) × (n.schema ≡ m.schema) × GoesOn o n in
    let kept = either_way _ _ (Kept c.take.new.manager) c.take.result c.take.ensures.manager
    (λ (is : c.take.new.manager ≡ rebuilt_of m). subst Kept (sym is) (listed_over o list m layers shown.listed, refl, refl, goes_on-over o m i.4 layers))
    (λ (is : c.take.new.manager ≡ m). subst Kept (sym is) (shown.listed, refl, refl, i.4)) in (
      kept.0,
      kept.1 ∙ i.1,
      i.2,
      c.take.ensures.columns ∙ i.3 ∙ sym kept.2,
      kept.3,
    )

pub returns-clause-manager : goal.returns-clause-manager
returns-clause-manager g c =
    subst
    (λ (s : Stand). MatchResult c.take.result (λ _. c.take.new.manager ≡ rebuilt_of s.manager) (λ _. c.take.new.manager ≡ s.manager))
    c.self.view_is
    c.take.ensures.manager

pub returns-clause-list : goal.returns-clause-list
returns-clause-list g c =
    let m = c.self.inside.manager in
    let shown = c.in_ok-show_same.ensures.list in
    let rebuilt = c.in_ok-rebuilt.ensures in
    let version : c.version.result.now ≡ layered_version (rebuilt_of m) =
    c.version.ensures
    ∙ rebuilt.layers_are
    ∙ ap (λ (l : Lower). numbered l (newest_number m)) rebuilt.emptied in
    subst (λ (s : Stand). IsShownBefore s.list (layered_version (rebuilt_of s.manager)) c.take.result c.show_same.new.self) c.self.view_is
    (shown_before c.self.inside.publisher c.show_same.new.self (layered_version (rebuilt_of m)) c.take.result
    (subst (λ (v : LayeredVersion). IsShownAgain c.self.inside.publisher v c.show_same.new.self) version shown))
