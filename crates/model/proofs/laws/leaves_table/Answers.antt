use Rattle.model.proofs.AllLaws.{leaves}
use Rattle.model.proofs.laws.leaves_table.Goals as goal

pub returns : goal.returns
returns c = leaves
