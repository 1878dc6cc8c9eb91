use Rattle.codec.proofs.PartSpeltLemmas.{a_payload_is_of_one_list}
use Rattle.codec.proofs.laws.a_payload_is_of_one_list.Goals as goal

pub returns : goal.returns
returns c = a_payload_is_of_one_list
