use Rattle.std.proofs.Common.{arith}
use Rattle.std.proofs.lemmas.List.{drop-map}
use Rattle.std.proofs.lemmas.Slice.{between_to_end}
use Rattle.blocks.proofs.BitsLemmas.{pack_more}
use Rattle.blocks.proofs.bits.pack.Goals as goal
use Rattle.std.proofs.lemmas.Grind.{common_steps}

pub loop-place-preserved : goal.loop-place-preserved
loop-place-preserved c = grind (arith, common_steps, c.byte_of.ensures, c.in_ok-push.ensures.items, c.loop-place-test.true, c.loop-place.invariant, between_to_end, drop-map, pack_more)
