use Rattle.model.proofs.AllLaws.{decides}
use Rattle.model.proofs.laws.decides_in_turn.Goals as goal

pub returns : goal.returns
returns c = decides
