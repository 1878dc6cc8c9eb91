use Rattle.journal.proofs.BurstLemmas.{a_burst_is_found}
use Rattle.journal.proofs.laws.a_burst_is_found.Goals as goal

pub returns : goal.returns
returns c = a_burst_is_found
