use Rattle.images.proofs.MarkLemmas.{a_mark_reads_back}
use Rattle.images.proofs.laws.a_mark_reads_back.Goals as goal

pub returns : goal.returns
returns c = a_mark_reads_back
