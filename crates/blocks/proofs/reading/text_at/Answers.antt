use Rattle.std.proofs.Common.{arith}
use Rattle.blocks.proofs.TextsLemmas.{text_found, text_bad}
use Rattle.blocks.proofs.reading.text_at.Goals as goal
use Rattle.std.proofs.lemmas.Grind.{common_steps}

pub returns-in-Ok : goal.returns-in-Ok
returns-in-Ok c = grind (arith, common_steps, c.in-Some.ensures.cases, c.from_be_bytes-length.ensures, c.in-Ok.ensures.cases.0, c.in-Ok.ensures.cases.1, c.if-length-gt-MAX_TEXT_BYTES.false, c.if-rest-length.false, c.split_at.ensures.front, c.split_at.ensures.back, text_found)

pub returns-in-Err : goal.returns-in-Err
returns-in-Err c = grind (arith, common_steps, c.in-Some.ensures.cases, c.from_be_bytes-length.ensures, c.if-length-gt-MAX_TEXT_BYTES.false, c.if-rest-length.false, c.split_at.ensures.front, c.in-Err.ensures.cases.0, text_bad)
