use Rattle.blocks.proofs.LawsLemmas.{of_one_list}
use Rattle.blocks.proofs.laws.a_payload_is_of_one_list.Goals as goal

pub returns : goal.returns
returns c = of_one_list
