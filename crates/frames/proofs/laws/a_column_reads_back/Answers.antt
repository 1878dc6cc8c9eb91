use Rattle.frames.proofs.AgainLemmas.{column_again}
use Rattle.frames.proofs.laws.a_column_reads_back.Goals as goal

pub returns : goal.returns
returns c = column_again
