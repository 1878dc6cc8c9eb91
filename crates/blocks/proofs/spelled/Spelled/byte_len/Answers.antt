use Rattle.std.proofs.Common.{arith}
use Rattle.blocks.proofs.CutsLemmas.{length-cut, begin_within, buffer-short}
use Rattle.blocks.proofs.spelled.Spelled.byte_len.Goals as goal
use Rattle.std.proofs.lemmas.Grind.{common_steps}

pub begin_of-requires : goal.begin_of-requires
begin_of-requires c = grind (arith, common_steps, c.requires, c.as_slice.ensures.value, length-cut)

pub returns : goal.returns
returns c = grind (arith, common_steps, c.requires, c.begin_of.ensures, c.as_slice.ensures.value, c.self.invariant, length-cut, begin_within, buffer-short)
