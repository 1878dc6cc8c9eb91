use Rattle.journal_steps.proofs.GrowLemmas.{the_journal_survives}
use Rattle.journal_steps.proofs.laws.the_journal_survives.Goals as goal

pub returns : goal.returns
returns c = the_journal_survives c.a_journal_survives.ensures c.a_header_reads_back.ensures
