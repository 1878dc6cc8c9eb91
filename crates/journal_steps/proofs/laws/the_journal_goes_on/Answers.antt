use Rattle.journal_steps.proofs.StartLemmas.{the_journal_goes_on}
use Rattle.journal_steps.proofs.laws.the_journal_goes_on.Goals as goal

pub returns : goal.returns
returns c = the_journal_goes_on
