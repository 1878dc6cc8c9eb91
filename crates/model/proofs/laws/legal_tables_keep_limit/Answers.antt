use Rattle.model.proofs.HistoryLemmas.{length-table_after}
use Rattle.model.proofs.laws.legal_tables_keep_limit.Goals as goal

pub returns : goal.returns
returns c = length-table_after
