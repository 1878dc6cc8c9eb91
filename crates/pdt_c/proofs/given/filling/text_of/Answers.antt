use Rattle.std.proofs.Common.{arith}
use Rattle.pdt_c.proofs.FillingLemmas.{text_of-text, text_of-none}
use Rattle.pdt_c.proofs.given.filling.text_of.Goals as goal

pub returns-in-Ok-clause-value : goal.returns-in-Ok-clause-value
returns-in-Ok-clause-value c =
    let cases = c.in-Ok.ensures.cases in
    rw cases.0 (text_of-text _ (omega (arith, c.if-bytes-gt-MAX_TEXT_BYTES.false)) cases.1)

pub returns-in-Err-clause-value : goal.returns-in-Err-clause-value
returns-in-Err-clause-value c =
    let cases = rw c.in-Err.is at c.from_utf8.ensures.cases in
    text_of-none _ (omega (arith, c.if-bytes-gt-MAX_TEXT_BYTES.false)) cases.0
