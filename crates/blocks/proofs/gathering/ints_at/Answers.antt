use Rattle.std.proofs.Common.{arith}
use Rattle.std.proofs.lemmas.Int.{to_z-of_z}
use Rattle.std.proofs.lemmas.List.{map_more, map_push}
use Rattle.blocks.proofs.FitLemmas.{ints_fit_push}
use Rattle.blocks.proofs.gathering.ints_at.Goals as goal
use Rattle.std.proofs.lemmas.Grind.{common_steps}

pub loop-place-preserved : goal.loop-place-preserved
loop-place-preserved c = grind (arith, common_steps, c.in_ok-push-in-Int.ensures.items, c.loop-place-test.true, c.in-Int.ensures, c.loop-place.invariant.same, c.loop-place.invariant.fit, to_z-of_z, map_more, map_push, ints_fit_push)
