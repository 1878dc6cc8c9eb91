use Rattle.blocks.proofs.EncodingLemmas.{is_encoded}
use Rattle.blocks.proofs.laws.what_decodes_is_an_encoding.Goals as goal

pub returns : goal.returns
returns c = is_encoded
