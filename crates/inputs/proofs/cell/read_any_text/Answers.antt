use Rattle.std.proofs.Common.{sym}
use Rattle.inputs.proofs.CellLemmas.{value_of-no_text, value_of-text}
use Rattle.inputs.proofs.cell.read_any_text.Goals as goal

pub returns-in-Err : goal.returns-in-Err
returns-in-Err c = let cases = rw c.in-Err.is at c.from_utf8.ensures.cases in sym (value_of-no_text _ cases.0)

pub returns : goal.returns
returns c = let cases = c.in-Ok.ensures.cases in rw (c.new.ensures, c.in_ok-from_str.ensures.ok, cases.0) (sym (value_of-text _ cases.1))
