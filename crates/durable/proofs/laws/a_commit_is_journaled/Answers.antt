use Rattle.durable.proofs.JournaledLemmas.{a_commit_is_journaled}
use Rattle.durable.proofs.laws.a_commit_is_journaled.Goals as goal

pub returns : goal.returns
returns c = a_commit_is_journaled c.a_journal_goes_on.ensures
