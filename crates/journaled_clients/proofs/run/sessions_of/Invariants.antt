use Rattle.std.proofs.Common.{◌≡◌, ◌+◌, ◌≤◌, ◌++◌, map, vec_capacity}
use Rattle.std.specs.Prelude.{All, IsOk, vec_items, vec_len}
use Rattle.std.specs.Vec.Iter.{into_iter_items, into_iter_len}
use Rattle.journaled_clients.proofs.run.sessions_of.Given as goal

-- the sessions so far came back with their lines written, and there is room for the others
abbrev pub invariant-loop-client : goal.invariant-loop-client
invariant-loop-client g l =
    (map (λ c. c.session) (vec_items l.back) ++ map (λ r. r.0.session) (into_iter_items l.client-iterator)
    ≡ map (λ r. r.0.session) (vec_items l.fn.ran))
    × (All (λ r. IsOk r.1) (into_iter_items l.client-iterator) → All (λ r. IsOk r.1) (vec_items l.fn.ran))
    × (vec_len l.back + into_iter_len l.client-iterator ≤ vec_capacity l.back)
