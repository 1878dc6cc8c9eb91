use Rattle.inputs.proofs.CellLemmas.{text-ok, text-long, text-bad}
use Rattle.inputs.proofs.cell.lent_text.Goals as goal

pub returns-in-Err-clause-err : goal.returns-in-Err-clause-err
returns-in-Err-clause-err c =
    let cases = rw c.in-Err.is at c.from_utf8.ensures.cases in
    text-bad _ _ _ cases.0

pub returns-then-text-gt-MAX_TEXT_BYTES-clause-err : goal.returns-then-text-gt-MAX_TEXT_BYTES-clause-err
returns-then-text-gt-MAX_TEXT_BYTES-clause-err c =
    let cases = c.in-Ok.ensures.cases in
    text-long _ _ _ cases.1 (rw cases.0 at c.if-text-gt-MAX_TEXT_BYTES.true)

pub returns-clause-ok : goal.returns-clause-ok
returns-clause-ok c =
    let cases = c.in-Ok.ensures.cases in
    rw cases.0 (text-ok _ _ _ cases.1 (rw cases.0 at c.if-text-gt-MAX_TEXT_BYTES.false))
