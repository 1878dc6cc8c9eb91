use Rattle.std.proofs.Common.{subst}
use Rattle.merge.specs.NumberRows.{HasNumberColumn}
use Rattle.merge.proofs.number_rows.NumberRowsNumbers.fill_next.Goals as goal

pub returns-in-Committed-clause-column : goal.returns-in-Committed-clause-column
returns-in-Committed-clause-column c = λ ty has.
    c.fill_next.ensures.column ty (subst (HasNumberColumn ty c.args.col) c.in-Committed.is has)

pub returns-in-Own-clause-column : goal.returns-in-Own-clause-column
returns-in-Own-clause-column c = λ ty has.
    c.fill_next-in-Own.ensures.column ty (subst (HasNumberColumn ty c.args.col) c.in-Own.is has)
