use Rattle.std.proofs.Common.{◌∙◌}
use Rattle.shared.proofs.locked.count_reply.Goals as goal

pub returns-clause-total : goal.returns-clause-total
returns-clause-total g c = c.audit.ensures.total ∙ c.add.ensures.total

pub returns-clause-amount : goal.returns-clause-amount
returns-clause-amount g c = c.audit.ensures.amount ∙ c.add.ensures.amount
