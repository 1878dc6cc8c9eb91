use Rattle.std.proofs.Common.{◌∙◌, sym}
use Rattle.inputs.proofs.CellLemmas.{int_of-no_text, int_of-result_ok}
use Rattle.inputs.proofs.cell.parsed_int.Goals as goal

pub returns-in-Err : goal.returns-in-Err
returns-in-Err c = let cases = rw c.in-Err.is at c.from_utf8.ensures.cases in sym (int_of-no_text _ cases.0)

pub returns : goal.returns
returns c =
    let cases = c.in-Ok.ensures.cases in
    c.ok.ensures.value ∙ sym (int_of-result_ok c.args.bytes.now c.parse.result (rw cases.0 at c.parse.ensures.value.0))
