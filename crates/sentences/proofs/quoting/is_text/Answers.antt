use Rattle.std.proofs.Common.{sym}
use Rattle.std.proofs.lemmas.Str.{is_utf8-from_IsUtf8}
use Rattle.inputs.proofs.CallerLemmas.{not_utf8}
use Rattle.sentences.proofs.quoting.is_text.Goals as goal

pub returns-in-Err : goal.returns-in-Err
returns-in-Err c = let cases = rw c.in-Err.is at c.from_utf8.ensures.cases in sym (not_utf8 _ cases.0)

pub returns-in-Ok : goal.returns-in-Ok
returns-in-Ok c = let cases = c.in-Ok.ensures.cases in sym (is_utf8-from_IsUtf8 _ cases.1)
