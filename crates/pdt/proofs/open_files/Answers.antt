use Rattle.std.proofs.Common.{ap}
use Rattle.pdt.proofs.open_files.Goals as goal

-- what is opened has no history
pub returns-in-Ok-clause-new : goal.returns-in-Ok-clause-new
returns-in-Ok-clause-new c = ap (λ m. m.history) c.in-Ok.ensures.opened.manager_is
