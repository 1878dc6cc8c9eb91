use Rattle.group_commit.proofs.ReopenedLemmas.{a_crash_leaves_older_frames as lemma}
use Rattle.group_commit.proofs.laws.a_crash_leaves_older_frames.Goals as goal

pub returns : goal.returns
returns c = lemma c.a_crash_leaves_what_is_written.ensures c.a_crash_leaves_whole_frames.ensures
