use Rattle.journal.proofs.HeaderLemmas.{a_journal_survives}
use Rattle.journal.proofs.laws.a_journal_survives.Goals as goal

pub returns : goal.returns
returns c = a_journal_survives
