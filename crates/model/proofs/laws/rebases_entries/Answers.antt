use Rattle.model.proofs.AllLaws.{rebases}
use Rattle.model.proofs.laws.rebases_entries.Goals as goal

pub returns : goal.returns
returns c = rebases
