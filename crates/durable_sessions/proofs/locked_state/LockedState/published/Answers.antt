use Rattle.std.proofs.Common.{◌≡◌, ◌∙◌, List, ap, sym}
use Rattle.manager.specs.Managed.{newest_number}
use Rattle.publishing.specs.declared.item.Item.{Item}
use Rattle.publishing.specs.Lists.{number_in}
use Rattle.publishing.proofs.CallerLemmas.{number_is}
use Rattle.shared.specs.Stands.{Stand}
use Rattle.durable_sessions.proofs.locked_state.LockedState.published.Goals as goal

-- the list's newest number is the manager's
pub returns-clause-newest : goal.returns-clause-newest
returns-clause-newest g c =
    let o = g.O.Opening.opened.manager in
    let stand = c.self.inside.locked in
    let same = ap (λ (list : List Item). number_in o list) (c.new.ensures ∙ c.list.ensures.list) in
    let newest = number_is o stand.list stand.manager c.manager-manager.ensures.listed in
    same ∙ sym newest ∙ ap (λ (s : Stand). newest_number s.manager) c.self.view_is
