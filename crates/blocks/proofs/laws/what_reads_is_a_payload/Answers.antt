use Rattle.blocks.proofs.LawsLemmas.{is_payload}
use Rattle.blocks.proofs.laws.what_reads_is_a_payload.Goals as goal

pub returns : goal.returns
returns c = is_payload
