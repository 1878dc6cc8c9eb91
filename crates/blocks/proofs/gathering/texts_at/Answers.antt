use Rattle.std.proofs.Common.{arith}
use Rattle.std.proofs.lemmas.List.{take_all}
use Rattle.blocks.proofs.FitLemmas.{texts_fit}
use Rattle.blocks.proofs.gathering.texts_at.Goals as goal
use Rattle.std.proofs.lemmas.Grind.{common_steps}

pub returns-clause-fit : goal.returns-clause-fit
returns-clause-fit c =
    grind (arith, common_steps, c.loop-place-test.false, c.loop-place.invariant.same, c.loop-place.invariant.fit, take_all, texts_fit)
