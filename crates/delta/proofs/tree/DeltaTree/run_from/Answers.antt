use Rattle.std.proofs.Common.{arith}
use Rattle.delta.proofs.tree.DeltaTree.run_from.Goals as goal
use Rattle.std.proofs.lemmas.Grind.{common_steps}

pub returns-in-Mod-clause-run : goal.returns-in-Mod-clause-run
returns-in-Mod-clause-run c =
    grind (arith, common_steps, c.modify_worth.ensures, c.modify_from-start.ensures.entry, c.in-Mod.is, c.modify_from-start.ensures.split)
