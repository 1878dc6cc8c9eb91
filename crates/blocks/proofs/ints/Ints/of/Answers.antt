use Rattle.std.proofs.Common.{ℤ, arith}
use Rattle.std.proofs.lemmas.List.{append-nil}
use Rattle.blocks.proofs.ZerosLemmas.{zeros_are}
use Rattle.blocks.proofs.ints.Ints.of.Goals as goal
use Rattle.std.proofs.lemmas.Grind.{common_steps}

-- all are zeros, and nothing is spelled out
pub returns-then-are_zeros : goal.returns-then-are_zeros
returns-then-are_zeros c = grind (arith, common_steps, c.as_slice.ensures.value, c.are_zeros.ensures, c.if-are_zeros.true, c.new.ensures.items, c.len.ensures, ℤ, append-nil, zeros_are)
