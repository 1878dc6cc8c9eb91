use Rattle.std.proofs.Common.{arith}
use Rattle.blocks.proofs.CutsLemmas.{length-cut}
use Rattle.blocks.proofs.spelled.Spelled.len.Goals as goal
use Rattle.std.proofs.lemmas.Grind.{common_steps}

pub returns-clause-len : goal.returns-clause-len
returns-clause-len c = grind (arith, common_steps, c.len.ensures, length-cut)

pub returns-clause-few : goal.returns-clause-few
returns-clause-few c = omega (arith, c.len.ensures, c.self.inside.ends.ok, c.self.invariant.few)
