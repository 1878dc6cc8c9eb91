use Rattle.model.proofs.LimitLemmas.{length-effects_after}
use Rattle.model.proofs.laws.write_keeps_limit.Goals as goal

pub returns : goal.returns
returns c = length-effects_after
