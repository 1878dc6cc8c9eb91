use Rattle.model.proofs.PositionsLemmas.{merged_rows-rid_of_insert}
use Rattle.model.proofs.laws.insert_stands_at_rid.Goals as goal

pub returns : goal.returns
returns c = merged_rows-rid_of_insert
