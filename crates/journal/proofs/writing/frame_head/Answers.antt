use Rattle.std.proofs.Common.{refl}
use Rattle.journal.proofs.writing.frame_head.Goals as goal

pub returns-clause-frame : goal.returns-clause-frame
returns-clause-frame c = rw (c.spelt_head.ensures, c.check_of-check.ensures, c.crc_from-sum.ensures) refl
