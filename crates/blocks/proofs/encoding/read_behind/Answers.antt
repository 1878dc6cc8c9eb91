use Rattle.std.proofs.Common.{arith}
use Rattle.blocks.proofs.EncodingLemmas.{fault_within}
use Rattle.blocks.proofs.encoding.read_behind.Goals as goal

pub one_later-requires : goal.one_later-requires
one_later-requires c = omega (arith, c.in-Err.ensures.first, c.requires.behind, fault_within)
