use Rattle.values.specs.Lent.{value_of}
use Rattle.inputs.proofs.ReadLemmas.{passed-up}
use Rattle.inputs.proofs.columns.add_cell.Goals as goal

pub returns-clause-ok : goal.returns-clause-ok
returns-clause-ok c = (value_of c.in_ok-value.value, rw c.column_type.ensures at c.in_ok-value.ensures.ok, c.in_ok-push.ensures.ok)

pub returns-in_err-value-clause-err : goal.returns-in_err-value-clause-err
returns-in_err-value-clause-err c =
    passed-up c.from_residual.result _ _ c.from_residual.ensures.1 (λ ne. rw c.column_type.ensures at c.in_err-value.ensures.err)
