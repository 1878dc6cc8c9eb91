use Rattle.blocks.proofs.EncodingLemmas.{encoding_reads_back}
use Rattle.blocks.proofs.laws.an_encoding_reads_back.Goals as goal

pub returns : goal.returns
returns c = encoding_reads_back
