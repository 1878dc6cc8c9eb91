use Rattle.merge.proofs.LawsLemmas.{altered_entries_are_ordered}
use Rattle.merge.proofs.laws.altered_entries_are_ordered.Goals as goal

pub returns : goal.returns
returns c = altered_entries_are_ordered
