use Rattle.devices.proofs.NewestLemmas.{greatest_read}
use Rattle.devices.proofs.laws.newest_is_the_greatest.Goals as goal

pub returns : goal.returns
returns c = greatest_read c.what_reads_is_a_column.ensures
