use Rattle.std.proofs.Common.{arith}
use Rattle.blocks.proofs.BitsLemmas.{length-truths, packed-truths}
use Rattle.blocks.proofs.bits.Bits.as_bytes.Goals as goal
use Rattle.std.proofs.lemmas.Grind.{common_steps}

pub returns : goal.returns
returns c = grind (arith, common_steps, c.self.invariant, c.as_slice.ensures.value, packed-truths, length-truths)
