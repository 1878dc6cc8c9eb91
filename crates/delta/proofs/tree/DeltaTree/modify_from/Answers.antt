use Rattle.std.proofs.Common.{arith}
use Rattle.delta.proofs.AheadLemmas.{base_is_modify}
use Rattle.delta.proofs.ChangesLemmas.{all_from}
use Rattle.delta.proofs.tree.DeltaTree.modify_from.Goals as goal
use Rattle.std.proofs.lemmas.Grind.{common_steps}

pub onward-requires-clause-before : goal.onward-requires-clause-before
onward-requires-clause-before c = grind (arith, common_steps, c.requires.before, all_from, base_is_modify)
