use Rattle.journal_steps.proofs.StartLemmas.{a_new_journal_holds}
use Rattle.journal_steps.proofs.laws.a_new_journal_holds.Goals as goal

pub returns : goal.returns
returns c = a_new_journal_holds
