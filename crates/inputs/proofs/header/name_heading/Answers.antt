use Rattle.std.proofs.Common.{◌≡◌, ◌==◌, false, sym, rules, length}
use Rattle.inputs.proofs.HeaderLemmas.{named-no_text, named-text}
use Rattle.inputs.proofs.header.name_heading.Goals as goal

pub returns-in-Err : goal.returns-in-Err
returns-in-Err c = let cases = rw c.in-Err.is at c.from_utf8.ensures.cases in sym (named-no_text _ _ cases.0)

pub returns : goal.returns
returns c =
    let cases = c.in-Ok.ensures.cases in
    let some : (length c.args.name.now == 0) ≡ false = search rules in
    rw (c.new.ensures, c.in_ok-from_str.ensures.ok, cases.0) (sym (named-text _ _ some c.if-name-gt-MAX_NAME_BYTES.false cases.1))
