use Rattle.std.proofs.Common.{◌∙◌, sym}
use Rattle.std.proofs.lemmas.Str.{is_utf8-from_IsUtf8}
use Rattle.inputs.proofs.CallerLemmas.{not_utf8}
use Rattle.sentences.proofs.quoting.label.Goals as goal

pub returns-in_ok-from_str-in-Ok : goal.returns-in_ok-from_str-in-Ok
returns-in_ok-from_str-in-Ok c =
    let cases = c.in-Ok.ensures.cases in
    let word = sym c.is_word.ensures ∙ c.if-not-is_word.false in
    rw (word, is_utf8-from_IsUtf8 _ cases.1) (c.in_ok-from_str-in-Ok.ensures.ok ∙ cases.0)

pub returns-in-Err : goal.returns-in-Err
returns-in-Err c =
    let cases = rw c.in-Err.is at c.from_utf8.ensures.cases in
    let word = sym c.is_word.ensures ∙ c.if-not-is_word.false in
    rw (word, not_utf8 _ cases.0) c.quoted_bytes.ensures
