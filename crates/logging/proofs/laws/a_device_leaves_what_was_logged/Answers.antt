use Rattle.logging.proofs.LeftLemmas.{a_device_leaves_a_batch, a_device_leaves_a_frame}
use Rattle.logging.proofs.laws.a_device_leaves_what_was_logged.Goals as goal

pub returns-clause-frame : goal.returns-clause-frame
returns-clause-frame c = a_device_leaves_a_frame

pub returns-clause-batch : goal.returns-clause-batch
returns-clause-batch c = a_device_leaves_a_batch
