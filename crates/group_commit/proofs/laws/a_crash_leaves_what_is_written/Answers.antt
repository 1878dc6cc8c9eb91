use Rattle.group_commit.proofs.GroupLogLemmas.{a_crash_leaves}
use Rattle.group_commit.proofs.laws.a_crash_leaves_what_is_written.Goals as goal

pub returns : goal.returns
returns c = a_crash_leaves c.a_device_leaves_what_was_logged.ensures.batch
