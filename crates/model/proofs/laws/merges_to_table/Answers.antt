use Rattle.model.proofs.AllLaws.{merges}
use Rattle.model.proofs.laws.merges_to_table.Goals as goal

pub returns : goal.returns
returns c = merges
