use Rattle.journal.proofs.HeaderLemmas.{a_header_is_guarded}
use Rattle.journal.proofs.laws.a_header_is_guarded.Goals as goal

pub returns : goal.returns
returns c = a_header_is_guarded
