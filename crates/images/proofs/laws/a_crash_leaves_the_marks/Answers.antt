use Rattle.images.proofs.CrashLemmas.{a_crash_leaves_the_marks}
use Rattle.images.proofs.laws.a_crash_leaves_the_marks.Goals as goal

pub returns : goal.returns
returns c = a_crash_leaves_the_marks c.a_crash_leaves_whole_frames.ensures
