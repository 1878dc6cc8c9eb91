use Rattle.std.proofs.Common.{rules, ◌≡◌, ◌∷◌, refl}
use Rattle.std.specs.Prelude.{IsOk, vec_items}
use Rattle.std.specs.Vec.Iter.{into_iter_items}
use Rattle.journaled_clients.proofs.RunLemmas.{All-step, ok_of, pushed}
use Rattle.journaled_clients.proofs.run.sessions_of.Goals as goal

pub loop-client-preserved : goal.loop-client-preserved
loop-client-preserved g c =
    let was = c.loop-client.invariant in
    let rest = into_iter_items c.loop-client.client-iterator in
    let left = into_iter_items c.next.new.self in
    let step : rest ≡ (c.in-Some.client, c.in-Some.outcome) ∷ left = let s = c.in-Some.ensures.steps in search rules in
    let good = ok_of c.in-Some.outcome c.in_ok-outcome.field-0 c.in_ok-outcome.was in (
      pushed (λ client. client.session) (λ r. r.0.session) (vec_items c.loop-client.back) (vec_items c.push_reserved.new.self)
          c.in-Some.client (c.in-Some.client, c.in-Some.outcome) rest left _ c.push_reserved.ensures.items refl step was.0,
      All-step (λ r. IsOk r.1) rest (c.in-Some.client, c.in-Some.outcome) left _ step good was.1,
      search rules,
    )
