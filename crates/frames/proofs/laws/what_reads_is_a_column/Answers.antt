use Rattle.frames.proofs.WholeLemmas.{column_taken}
use Rattle.frames.proofs.laws.what_reads_is_a_column.Goals as goal

pub returns : goal.returns
returns c = column_taken
