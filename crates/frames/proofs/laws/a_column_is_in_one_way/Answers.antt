use Rattle.frames.proofs.AgainLemmas.{one_column}
use Rattle.frames.proofs.laws.a_column_is_in_one_way.Goals as goal

pub returns : goal.returns
returns c = one_column
