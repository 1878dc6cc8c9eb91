use Rattle.model.proofs.AllLaws.{finds}
use Rattle.model.proofs.laws.conflict_is_found.Goals as goal

pub returns : goal.returns
returns c = finds
