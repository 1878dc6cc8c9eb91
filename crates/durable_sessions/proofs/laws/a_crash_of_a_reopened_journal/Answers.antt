use Rattle.durable_sessions.proofs.CrashLemmas.{the_reopened}
use Rattle.durable_sessions.proofs.laws.a_crash_of_a_reopened_journal.Goals as goal

pub returns : goal.returns
returns c = the_reopened c.a_reopened_journal_is_one.ensures c.a_crash_leaves_what_is_written.ensures
