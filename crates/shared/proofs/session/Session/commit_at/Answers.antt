use Rattle.std.proofs.Common.{◌+◌, refl, sym, ap, ◌∙◌, subst}
use Rattle.shared.specs.Sessions.{IsOfSeat}
use Rattle.shared.proofs.session.Session.commit_at.Goals as goal

pub invariant_of-self : goal.invariant_of-self
invariant_of-self g c =
    let i = c.self.invariant in
    let s = c.self.inside in
    let told = c.in-Ok.ensures.told in (
      (c.commit.ensures.parts ∙ i.0.0, c.in-Ok.ensures.counted ∙ ap (λ n. n + 1) i.0.1),
      c.commit.ensures.opening,
      subst (IsOfSeat g.O.Opening.opened.manager s.client c.commit.new.seen.list) (sym c.take.ensures.after) tt,
      (told.0, told.2),
      i.4,
      i.5,
    )

pub returns-in-Ok-clause-told : goal.returns-in-Ok-clause-told
returns-in-Ok-clause-told g c = (c.in-Ok.note.list, refl, c.in-Ok.ensures.told.2, c.in-Ok.ensures.reached)
