use Rattle.shared.proofs.EndingLemmas.{handed_on}
use Rattle.durable_sessions.proofs.durable_shared.DurableShared.cut.Goals as goal

pub returns-clause-opening : goal.returns-clause-opening
returns-clause-opening g c = handed_on g.O.Opening.opened.manager _ c.cut-outcome.result c.cut-outcome.ensures.of_list
