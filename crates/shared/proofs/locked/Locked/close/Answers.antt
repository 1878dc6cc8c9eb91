use Rattle.std.proofs.Common.{List, ap, subst}
use Rattle.publishing.specs.declared.item.Item.{Item}
use Rattle.publishing.specs.Lists.{IsListed}
use Rattle.shared.specs.Stands.{Stand}
use Rattle.shared.proofs.locked.Locked.close.Goals as goal

pub returns-clause-manager : goal.returns-clause-manager
returns-clause-manager g c = ap (λ (s : Stand). s.manager) c.self.view_is

pub returns-clause-lawful : goal.returns-clause-lawful
returns-clause-lawful g c = c.kept.ensures

pub returns-clause-listed : goal.returns-clause-listed
returns-clause-listed g c =
    let o = g.O.Opening.opened.manager in
    let m = c.self.inside.manager in
    subst (λ (l : List Item). IsListed o l m) (ap (λ (s : Stand). s.list) c.self.view_is) c.self.invariant.0

pub returns-clause-goes_on : goal.returns-clause-goes_on
returns-clause-goes_on g c = c.self.invariant.4
