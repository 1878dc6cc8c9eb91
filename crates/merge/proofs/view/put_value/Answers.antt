use Rattle.std.proofs.Common.{arith}
use Rattle.merge.proofs.ViewLemmas.{values_of-set}
use Rattle.merge.proofs.view.put_value.Goals as goal
use Rattle.std.proofs.lemmas.Grind.{common_steps}

pub returns-in-Mod : goal.returns-in-Mod
returns-in-Mod c = grind (arith, common_steps, c.in-Mod.is, c.change.ensures, c.deref_mut.ensures.value, values_of-set)
