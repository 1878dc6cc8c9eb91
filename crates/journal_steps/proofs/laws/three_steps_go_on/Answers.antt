use Rattle.journal_steps.proofs.IdleLemmas.{three_steps_go_on}
use Rattle.journal_steps.proofs.laws.three_steps_go_on.Goals as goal

pub returns : goal.returns
returns c = three_steps_go_on
