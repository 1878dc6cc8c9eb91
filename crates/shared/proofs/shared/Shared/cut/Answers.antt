use Rattle.shared.proofs.EndingLemmas.{handed_on}
use Rattle.shared.proofs.shared.Shared.cut.Goals as goal

pub returns-clause-opening : goal.returns-clause-opening
returns-clause-opening g c = handed_on g.O.Opening.opened.manager _ c.cut-outcome.result c.cut-outcome.ensures.of_list
