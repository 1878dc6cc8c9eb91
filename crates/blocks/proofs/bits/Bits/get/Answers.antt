use Rattle.std.proofs.Common.{arith}
use Rattle.blocks.proofs.BitsLemmas.{truth_at, length-truths}
use Rattle.blocks.proofs.bits.Bits.get.Goals as goal
use Rattle.std.proofs.lemmas.Grind.{common_steps}

pub returns : goal.returns
returns c = grind (arith, common_steps, c.self.invariant.whole, c.requires, c.index.ensures, length-truths, truth_at)
