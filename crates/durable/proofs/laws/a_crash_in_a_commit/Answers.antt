use Rattle.durable.proofs.JournaledLemmas.{a_crash_in_a_commit}
use Rattle.durable.proofs.laws.a_crash_in_a_commit.Goals as goal

pub returns : goal.returns
returns c = a_crash_in_a_commit c.a_journal_goes_on.ensures c.a_device_leaves_what_was_logged.ensures.frame
