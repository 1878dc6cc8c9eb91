use Rattle.merge.proofs.LawsLemmas.{a_merge_commutes}
use Rattle.merge.proofs.laws.a_merge_commutes.Goals as goal

pub returns : goal.returns
returns c = a_merge_commutes
