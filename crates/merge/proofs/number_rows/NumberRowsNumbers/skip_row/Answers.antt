use Rattle.std.proofs.Common.{subst}
use Rattle.merge.specs.NumberRows.{HasNumberColumn}
use Rattle.merge.proofs.number_rows.NumberRowsNumbers.skip_row.Goals as goal

pub returns-in-Committed-clause-column : goal.returns-in-Committed-clause-column
returns-in-Committed-clause-column c = λ ty col has. c.skip_row.ensures.column ty col (subst (HasNumberColumn ty col) c.in-Committed.is has)

pub returns-in-Own-clause-column : goal.returns-in-Own-clause-column
returns-in-Own-clause-column c = λ ty col has. c.skip_row-in-Own.ensures.column ty col (subst (HasNumberColumn ty col) c.in-Own.is has)
