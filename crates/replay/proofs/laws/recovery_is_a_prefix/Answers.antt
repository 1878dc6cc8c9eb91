use Rattle.replay.proofs.RecoveryLemmas.{recovery_is_a_prefix}
use Rattle.replay.proofs.laws.recovery_is_a_prefix.Goals as goal

pub returns : goal.returns
returns c = recovery_is_a_prefix c.a_crash_leaves_whole_frames.ensures c.merges_to_table.ensures
