use Rattle.delta.proofs.LawsLemmas.{shared}
use Rattle.delta.proofs.laws.inserts_ascend_at_a_sid.Goals as goal

pub returns : goal.returns
returns c = shared
