use Rattle.std.proofs.Common.{List, ap, ◌∙◌, subst}
use mathlib.Core.List.{IsPrefix}
use Rattle.publishing.specs.declared.item.Item.{Item}
use Rattle.publishing.specs.Lists.{Known}
use Rattle.shared.specs.Sessions.{Seat}
use Rattle.shared.proofs.SeatLemmas.{seat_more, note_more}
use Rattle.shared.proofs.session.Session.told.Goals as goal

pub invariant_of-self : goal.invariant_of-self
invariant_of-self g c =
    let i = c.self.invariant in
    let s = c.self.inside in
    let xs = s.list.list in
    let ys = c.longer.result.list in
    let p = c.longer.ensures.this in
    let o = g.O.Opening.opened in
    (i.0, c.longer.ensures.opening ∙ i.1, seat_more o.manager s.client xs ys s.txn p i.2, note_more o xs ys s.note p i.3, i.4, i.5)

pub returns-clause-seen : goal.returns-clause-seen
returns-clause-seen g c =
    let at = λ (l : List Item). IsPrefix l c.longer.result.list in (
      subst at (ap (λ (s : Seat). s.seen) c.self.view_is) c.longer.ensures.this,
      subst at (ap (λ (k : Known). k.list) c.into_list-list.ensures.list) c.longer.ensures.that,
    )
