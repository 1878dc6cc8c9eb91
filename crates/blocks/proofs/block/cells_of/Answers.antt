use Rattle.std.proofs.Common.{arith}
use Rattle.blocks.proofs.FitLemmas.{truths_fit}
use Rattle.blocks.proofs.LawsLemmas.{map-Truth}
use Rattle.blocks.proofs.block.cells_of.Goals as goal
use Rattle.std.proofs.lemmas.Grind.{common_steps}

pub returns-in_ok-from_values-in-Bool-clause-same : goal.returns-in_ok-from_values-in-Bool-clause-same
returns-in_ok-from_values-in-Bool-clause-same c =
    grind (arith, common_steps, c.in-Bool.is, c.requires.typed, c.in_ok-from_values-in-Bool.ensures, truths_fit, map-Truth)

pub returns-in_ok-from_values-in-Bool-clause-fit : goal.returns-in_ok-from_values-in-Bool-clause-fit
returns-in_ok-from_values-in-Bool-clause-fit c = grind (arith, common_steps, c.in-Bool.is, c.requires.typed, truths_fit)
