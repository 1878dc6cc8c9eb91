use Rattle.shared.proofs.EndingLemmas.{keeps_all}
use Rattle.shared.proofs.laws.keeps_what_it_had.Goals as goal

pub returns : goal.returns
returns c o seats m closed all = keeps_all o seats m closed all
