use Rattle.group_commit.proofs.ReopenedLemmas.{a_reopened_journal_is_one as lemma}
use Rattle.group_commit.proofs.laws.a_reopened_journal_is_one.Goals as goal

pub returns : goal.returns
returns c = lemma c.a_journal_goes_on.ensures
