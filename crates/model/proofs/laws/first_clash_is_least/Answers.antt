use Rattle.model.proofs.FirstClashLemmas.{first_clash-least}
use Rattle.model.proofs.laws.first_clash_is_least.Goals as goal

pub returns : goal.returns
returns c = first_clash-least
