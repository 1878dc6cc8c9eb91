use Rattle.std.proofs.Common.{arith}
use Rattle.std.proofs.lemmas.Bool.{le-ltb}
use Rattle.std.proofs.lemmas.List.{drop_all, get_or_default}
use Rattle.std.proofs.lemmas.Nat.{one_shl}
use Rattle.blocks.proofs.BitsLemmas.{padding_of_last, length-all_bits}
use Rattle.blocks.proofs.bits.has_set_padding.Goals as goal
use Rattle.std.proofs.lemmas.Grind.{common_steps}

pub returns-then-used-gt0 : goal.returns-then-used-gt0
returns-then-used-gt0 c = grind (arith, common_steps, c.if-used-gt0.true, c.requires, one_shl, padding_of_last, get_or_default)

pub returns-else-used-gt0 : goal.returns-else-used-gt0
returns-else-used-gt0 c = grind (arith, common_steps, c.requires, c.if-used-gt0.false, drop_all, length-all_bits, le-ltb)
