use Rattle.std.proofs.Common.{arith}
use Rattle.frames.proofs.FrameLemmas.{is_read}
use Rattle.frames.proofs.stored.StoredBlock.tested.Goals as goal
use Rattle.std.proofs.lemmas.Grind.{common_steps}

pub invariant_of-result : goal.invariant_of-result
invariant_of-result c = grind (arith, common_steps, c.type_inv.payload, c.requires, c.in_ok-block_in.ensures.first, is_read)
