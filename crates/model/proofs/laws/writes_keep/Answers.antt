use Rattle.model.proofs.AllLaws.{all_keep}
use Rattle.model.proofs.laws.writes_keep.Goals as goal

pub returns : goal.returns
returns c = all_keep
