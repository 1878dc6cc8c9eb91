use Rattle.journal.proofs.HeaderLemmas.{a_header_is_spelt}
use Rattle.journal.proofs.laws.a_header_is_spelt.Goals as goal

pub returns : goal.returns
returns c = a_header_is_spelt
