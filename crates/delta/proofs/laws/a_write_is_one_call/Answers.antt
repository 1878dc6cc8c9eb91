use Rattle.delta.proofs.LawsLemmas.{may_call}
use Rattle.delta.proofs.laws.a_write_is_one_call.Goals as goal

pub returns : goal.returns
returns c = may_call
