use Rattle.std.proofs.Common.{rules, ◌≡◌, ◌++◌, ◌∷◌, [], List, map}
use Rattle.std.specs.Prelude.{vec_items}
use Rattle.std.specs.Vec.Iter.{into_iter_items}
use Rattle.inputs.specs.declared.call.ClientCall.{ClientCall}
use Rattle.shared.specs.Sessions.{Seat}
use Rattle.pdtcli.proofs.ClientsLemmas.{made_step, next_done}
use Rattle.pdtcli.proofs.clients.join_all.Goals as goal

pub loop-handle-preserved : goal.loop-handle-preserved
loop-handle-preserved g c =
    let was = c.loop-handle.invariant in
    let h = c.in-Some.handle in
    let rest = into_iter_items c.loop-handle.handle-iterator in
    let left = into_iter_items c.next.new.self in
    let step : rest ≡ h ∷ left = let s = c.in-Some.ensures.steps in search rules in
    let given : Seat × List ClientCall = (h.promise.session.value, h.promise.calls.now) in
    let r = c.join-session.result in (
      (
        was.0.0 ++ given ∷ [],
        next_done (λ h. (h.promise.session.value, h.promise.calls.now)) was.0.0
            (map (λ h. (h.promise.session.value, h.promise.calls.now)) c.args.handles.items) h rest left step was.0.1,
        made_step vec_items g.O.Opening.opened.manager was.0.0 c.loop-handle.back.items c.push_reserved.new.self.items
            c.loop-handle.groups.items c.push_reserved-in-loop-handle.new.self.items given r.1 r.0 was.0.2 c.join-session.ensures
            c.push_reserved-in-loop-handle.ensures.items c.push_reserved.ensures.items,
      ),
      search rules,
      search rules,
    )
