use Rattle.blocks.proofs.EncodingLemmas.{encoding_of_one_list}
use Rattle.blocks.proofs.laws.an_encoding_is_of_one_list.Goals as goal

pub returns : goal.returns
returns c = encoding_of_one_list
