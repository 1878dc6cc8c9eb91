use Rattle.std.proofs.Common.{arith}
use Rattle.std.proofs.lemmas.Grind.{common_steps}
use Rattle.std.proofs.lemmas.Str.{IsUtf8-past_char, chars_past_char}
use Rattle.sentences.proofs.QuotingLemmas.{chars_of_empty}
use Rattle.sentences.proofs.quoting.quoted_text.Goals as goal

pub loop-c-preserved : goal.loop-c-preserved
loop-c-preserved c =
    let held = c.loop-c.invariant in
    let parts = c.in-Some.ensures.steps.0 in
    let next = rw (chars_past_char _ _ c.in-Some.c held.0 parts) at held.1 in
    (IsUtf8-past_char _ _ c.in-Some.c held.0 parts, grind (arith, common_steps, next))

pub returns-then-left-len : goal.returns-then-left-len
returns-then-left-len c =
    let held = c.loop-c.invariant in
    let next = rw (chars_past_char _ _ c.in-Some.c held.0 c.in-Some.ensures.steps.0) at held.1 in
    grind (arith, common_steps, next)

pub returns : goal.returns
returns c =
    let last = rw (chars_of_empty _ c.in-None.ensures.steps.0.0) at c.loop-c.invariant.1 in
    grind (arith, common_steps, last)
