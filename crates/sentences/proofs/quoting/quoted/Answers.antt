use Rattle.std.proofs.Common.{◌≤◌, ◌+◌, List, ℕ, chars, length, map, subst, sym, arith}
use Rattle.std.proofs.lemmas.Str.{is_utf8-from_IsUtf8}
use Rattle.inputs.proofs.CallerLemmas.{not_utf8}
use Rattle.sentences.specs.Quoting.{escaped, escaped_byte}
use Rattle.sentences.proofs.QuotingLemmas.{length-cut}
use Rattle.sentences.proofs.RecordLemmas.{then-ok}
use Rattle.sentences.proofs.quoting.quoted.Goals as goal

pub returns-in-Ok-clause-text : goal.returns-in-Ok-clause-text
returns-in-Ok-clause-text c = let cases = c.in-Ok.ensures.cases in rw (is_utf8-from_IsUtf8 _ cases.1, ← cases.0) c.quoted_text.ensures

pub returns-in-Ok-clause-short : goal.returns-in-Ok-clause-short
returns-in-Ok-clause-short c =
    let short = length-cut c.args.room (map escaped (chars c.in-Ok.text.now)) in
    then-ok c.quoted_text.result _ _
    (λ text is. subst (λ (bytes : List ℕ). length bytes ≤ c.args.room + 5) (sym is) (omega (arith, short)))
    c.quoted_text.ensures

pub returns-in-Err-clause-text : goal.returns-in-Err-clause-text
returns-in-Err-clause-text c =
    let cases = rw c.in-Err.is at c.from_utf8.ensures.cases in rw (not_utf8 _ cases.0) c.quoted_bytes.ensures

pub returns-in-Err-clause-short : goal.returns-in-Err-clause-short
returns-in-Err-clause-short c =
    let short = length-cut c.args.room (map escaped_byte c.args.bytes.now) in
    then-ok c.quoted_bytes.result _ _
    (λ text is. subst (λ (bytes : List ℕ). length bytes ≤ c.args.room + 5) (sym is) (omega (arith, short)))
    c.quoted_bytes.ensures
