use Rattle.std.proofs.Common.{sym, ap, ◌∙◌, subst}
use Rattle.manager.specs.Managed.{Managed, newest_number}
use Rattle.publishing.specs.Lists.{IsCutAfter, IsListed, IsOfList, layered_version}
use Rattle.publishing.proofs.CallerLemmas.{of_list}
use Rattle.shared.specs.Endings.{GoesOn}
use Rattle.shared.specs.Stands.{Stand}
use Rattle.shared.proofs.EndingLemmas.{goes_on-cut}
use Rattle.shared.proofs.locked.Locked.cut.Goals as goal

pub invariant_of-self-2 : goal.invariant_of-self-2
invariant_of-self-2 g c =
    let o = g.O.Opening.opened.manager in
    let i = c.self.invariant in
    let next = c.cut-history.ensures.next in (
      subst (λ (n : Managed). IsListed o c.show_cut.new.self n) (sym next) c.in_ok-show_cut.ensures.listed,
      ap (λ (n : Managed). n.made) next ∙ i.1,
      i.2,
      i.3 ∙ sym (ap (λ (n : Managed). n.schema) next),
      subst (λ (n : Managed). GoesOn o n) (sym next) (goes_on-cut o c.self.inside.manager i.4),
    )

pub returns-clause-of_list : goal.returns-clause-of_list
returns-clause-of_list g c =
    let o = g.O.Opening.opened.manager in
    let list = c.self.inside.publisher in
    let of = of_list o list c.self.inside.manager c.self.invariant.0 in
    subst (λ (s : Stand). IsOfList o s.list c.cut-history.result) c.self.view_is
    (subst (IsOfList o list) (sym c.cut-history.ensures.handed) of)

pub returns-clause-list : goal.returns-clause-list
returns-clause-list g c =
    subst (λ (s : Stand). IsCutAfter s.list (newest_number s.manager) (layered_version s.manager) c.show_cut.new.self) c.self.view_is
    c.in_ok-show_cut.ensures.list
