use Rattle.std.proofs.Common.{arith}
use Rattle.std.proofs.lemmas.List.{take_rest}
use Rattle.std.proofs.Math.Seq.{take-add}
use Rattle.devices.proofs.file.write_front.Goals as goal
use Rattle.std.proofs.lemmas.Grind.{common_steps}

pub loop-at-preserved : goal.loop-at-preserved
loop-at-preserved g c = grind (arith, common_steps, c.in-Ok.ensures.bytes, c.in-Ok.ensures.bound, c.loop-at-test.true, c.loop-at.invariant.taken, take_rest, take-add)
