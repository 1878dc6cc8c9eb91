use Rattle.group_commit.proofs.GroupLogLemmas.{a_batch_grows as lemma}
use Rattle.group_commit.proofs.laws.a_batch_grows.Goals as goal

pub returns : goal.returns
returns c = lemma c.a_journal_goes_on.ensures
