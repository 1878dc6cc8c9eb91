use Rattle.std.proofs.Common.{arith}
use Rattle.merge.proofs.RunLemmas.{run_mapped}
use Rattle.merge.proofs.run.run_of.Goals as goal
use Rattle.std.proofs.lemmas.Grind.{common_steps}

pub returns-in-Ints-clause-values : goal.returns-in-Ints-clause-values
returns-in-Ints-clause-values c = grind (arith, common_steps, c.in-Ints.ensures, run_mapped)

pub returns-in-Texts-clause-values : goal.returns-in-Texts-clause-values
returns-in-Texts-clause-values c = grind (arith, common_steps, c.in-Texts.ensures, run_mapped)

pub returns-in-Truths-clause-values : goal.returns-in-Truths-clause-values
returns-in-Truths-clause-values c = grind (arith, common_steps, c.in-Truths.ensures, run_mapped)
