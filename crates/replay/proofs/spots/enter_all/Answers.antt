use Rattle.replay.specs.Own.{spots_at}
use Rattle.replay.proofs.PlaceLemmas.{entered_all}
use Rattle.replay.proofs.spots.enter_all.Goals as goal

pub returns : goal.returns
returns c = λ table.
    entered_all (spots_at (λ v. v.items) c.loop-rest.spots table) (spots_at (λ v. v.items) c.args.spots.now table) table c.args.spot
    c.loop-rest.rest.now c.args.tables.now c.in_default.len_below c.requires (c.loop-rest.invariant table)
