use Rattle.std.proofs.Common.{arith}
use Rattle.std.proofs.lemmas.List.{take_all}
use Rattle.blocks.proofs.FitLemmas.{bits_fit}
use Rattle.blocks.proofs.gathering.truths_at.Goals as goal
use Rattle.std.proofs.lemmas.Grind.{common_steps}

pub returns-clause-fit : goal.returns-clause-fit
returns-clause-fit c = grind (arith, common_steps, c.loop-place-test.false, c.loop-place.invariant, take_all, bits_fit)
