use Rattle.std.proofs.Common.{◌≡◌, ◌+◌, ◌≤◌, ◌++◌, List, map, vec_capacity}
use Rattle.std.specs.Prelude.{vec_len, vec_items}
use Rattle.std.specs.Vec.Iter.{into_iter_items, into_iter_len}
use Rattle.inputs.specs.declared.call.ClientCall.{ClientCall}
use Rattle.shared.specs.Sessions.{Seat}
use Rattle.pdtcli.specs.Clients.{HaveMade}
use Rattle.pdtcli.proofs.clients.join_all.Given as goal

-- the threads that were joined have made their calls, and there is room for the others
abbrev pub invariant-loop-handle : goal.invariant-loop-handle
invariant-loop-handle g l =
    ((done : List (Seat × List ClientCall))
    × (done ++ map (λ h. (h.promise.session.value, h.promise.calls.now)) (into_iter_items l.handle-iterator)
    ≡ map (λ h. (h.promise.session.value, h.promise.calls.now)) (vec_items l.fn.handles))
    × HaveMade g.O.Opening.opened.manager done (map vec_items (vec_items l.groups)) (vec_items l.back))
    × (vec_len l.back + into_iter_len l.handle-iterator ≤ vec_capacity l.back)
    × (vec_len l.groups + into_iter_len l.handle-iterator ≤ vec_capacity l.groups)
