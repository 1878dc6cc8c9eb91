use Rattle.journal_steps.proofs.IdleLemmas.{two_steps_make_all_durable}
use Rattle.journal_steps.proofs.laws.two_steps_make_all_durable.Goals as goal

pub returns : goal.returns
returns c = two_steps_make_all_durable
