use Rattle.journal.proofs.HeaderLemmas.{a_header_reads_back}
use Rattle.journal.proofs.laws.a_header_reads_back.Goals as goal

pub returns : goal.returns
returns c = a_header_reads_back
