use Rattle.blocks.proofs.LawsLemmas.{reads_back}
use Rattle.blocks.proofs.laws.a_payload_reads_back.Goals as goal

pub returns : goal.returns
returns c = reads_back
