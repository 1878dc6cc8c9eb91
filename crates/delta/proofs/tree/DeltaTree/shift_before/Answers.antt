use Rattle.std.proofs.Common.{arith}
use Rattle.std.proofs.lemmas.Int.{ints}
use Rattle.counted.proofs.CallerLemmas.{shift_within}
use Rattle.delta.proofs.CountedLemmas.{total-is, shift-is, ordered_from_lawful}
use Rattle.delta.proofs.tree.DeltaTree.shift_before.Goals as goal
use Rattle.std.proofs.lemmas.Grind.{common_steps}

pub shift_before-requires : goal.shift_before-requires
shift_before-requires g c = grind (arith, common_steps, c.self.invariant.ordered, ordered_from_lawful)

pub returns-clause-shift : goal.returns-clause-shift
returns-clause-shift g c =
    grind (arith, common_steps, c.shift_before.ensures.shift, c.self.invariant.counted, shift-is, total-is, shift_within, ints)
