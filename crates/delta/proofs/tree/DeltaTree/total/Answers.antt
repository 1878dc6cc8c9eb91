use Rattle.std.proofs.Common.{arith}
use Rattle.std.proofs.lemmas.Int.{ints}
use Rattle.delta.proofs.CountLemmas.{counts-le}
use Rattle.delta.proofs.CountedLemmas.{total-is}
use Rattle.delta.proofs.tree.DeltaTree.total.Goals as goal
use Rattle.std.proofs.lemmas.Grind.{common_steps}

pub returns-clause-total : goal.returns-clause-total
returns-clause-total c = grind (arith, common_steps, c.total.ensures, c.self.invariant.counted, total-is, ints, counts-le)
