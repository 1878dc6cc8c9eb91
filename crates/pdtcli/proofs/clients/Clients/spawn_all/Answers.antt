use Rattle.std.proofs.Common.{rules, ◌≡◌, ◌<◌, ◌∷◌, subst}
use Rattle.std.specs.List.{All}
use Rattle.std.specs.Vec.Iter.{into_iter_items}
use Rattle.std.proofs.lemmas.List.Elements.{All-tail}
use Rattle.shared.specs.Sessions.{Seat}
use Rattle.pdtcli.proofs.ClientsLemmas.{started_more}
use Rattle.pdtcli.proofs.clients.Clients.spawn_all.Goals as goal

pub loop-session-preserved : goal.loop-session-preserved
loop-session-preserved g c =
    let was = c.loop-session.invariant in
    let rest = into_iter_items c.loop-session.session-iterator in
    let left = into_iter_items c.next.new.self in
    let step : rest ≡ c.in-Some.session ∷ left = let s = c.in-Some.ensures.steps in search rules in
    let made = c.in_ok-spawn.ensures.started in (
      started_more (λ h. (h.promise.session.value, h.promise.calls.now)) c.args.self.now c.loop-session.handles.items
          c.push_reserved.new.self.items
          rest left c.args.sessions.items c.in_ok-spawn.field-0 c.in-Some.session step (λ i. (made.0 i, made.1 i))
          c.push_reserved.ensures.items was.0,
      search rules,
      search rules,
      All-tail (λ (s : Seat). s.client < g.O.Opening.clients) c.in-Some.session left
          (subst (All (λ (s : Seat). s.client < g.O.Opening.clients)) step was.3),
    )
