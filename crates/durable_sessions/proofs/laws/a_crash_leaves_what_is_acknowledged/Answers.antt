use Rattle.durable_sessions.proofs.CrashLemmas.{at_any_moment, the_acknowledged}
use Rattle.durable_sessions.proofs.laws.a_crash_leaves_what_is_acknowledged.Goals as goal

pub returns-clause-moment : goal.returns-clause-moment
returns-clause-moment c = at_any_moment c.a_batch_at_any_moment.ensures

pub returns-clause-crash : goal.returns-clause-crash
returns-clause-crash c = the_acknowledged c.a_crash_leaves_what_is_written.ensures
