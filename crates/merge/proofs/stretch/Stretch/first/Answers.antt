use Rattle.std.proofs.Common.{arith}
use Rattle.merge.proofs.StretchLemmas.{stretch_first}
use Rattle.merge.proofs.stretch.Stretch.first.Goals as goal
use Rattle.std.proofs.lemmas.Grind.{common_steps}

pub returns-in-Stable-clause-row : goal.returns-in-Stable-clause-row
returns-in-Stable-clause-row c =
    grind (arith, common_steps, c.requires.0, c.in-Stable.is, c.requires.1, c.stable.ensures.row, stretch_first)
