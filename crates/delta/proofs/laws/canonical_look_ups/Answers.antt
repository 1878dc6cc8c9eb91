use Rattle.delta.proofs.LawsLemmas.{finds_effect}
use Rattle.delta.proofs.laws.canonical_look_ups.Goals as goal

pub returns : goal.returns
returns c = finds_effect
