use Rattle.codec.proofs.PartLemmas.{parts_read_back, others_read_none}
use Rattle.codec.proofs.laws.parts_read_back.Goals as goal

pub returns-clause-parts : goal.returns-clause-parts
returns-clause-parts c = parts_read_back

pub returns-clause-others : goal.returns-clause-others
returns-clause-others c = others_read_none
