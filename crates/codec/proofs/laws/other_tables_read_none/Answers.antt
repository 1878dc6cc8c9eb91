use Rattle.codec.proofs.TablesLemmas.{other_tables_read_none}
use Rattle.codec.proofs.laws.other_tables_read_none.Goals as goal

pub returns : goal.returns
returns c = other_tables_read_none
