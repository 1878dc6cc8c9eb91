use Rattle.merge.proofs.LawsLemmas.{a_placeholder_is_enough}
use Rattle.merge.proofs.laws.a_placeholder_is_enough.Goals as goal

pub returns : goal.returns
returns c = a_placeholder_is_enough
