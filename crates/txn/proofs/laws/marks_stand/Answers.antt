use Rattle.txn.proofs.MarkLemmas.{marks_stand}
use Rattle.txn.proofs.laws.marks_stand.Goals as goal

pub returns : goal.returns
returns c = marks_stand
