use Rattle.std.proofs.Common.{◌≡◌, ◌+◌, ◌≤◌, ◌++◌, map, vec_capacity}
use Rattle.std.specs.Prelude.{◌<◌, vec_len, vec_items}
use Rattle.std.specs.List.{All}
use Rattle.std.specs.Vec.Iter.{into_iter_items, into_iter_len}
use Rattle.pdtcli.specs.Clients.{each_with}
use Rattle.pdtcli.proofs.clients.Clients.spawn_all.Given as goal

-- each thread that was started has its session, and there is room for the others
abbrev pub invariant-loop-session : goal.invariant-loop-session
invariant-loop-session g l =
    (map (λ h. (h.promise.session.value, h.promise.calls.now)) (vec_items l.handles)
    ++ each_with l.self (into_iter_items l.session-iterator)
    ≡ each_with l.self (vec_items l.fn.sessions))
    × (vec_len l.handles + into_iter_len l.session-iterator ≡ vec_len l.fn.sessions)
    × (vec_len l.fn.sessions ≤ vec_capacity l.handles)
    × All (λ session. session.client < g.O.Opening.clients) (into_iter_items l.session-iterator)
