use Rattle.std.proofs.Common.{◌≡◌, ◌≢◌, sym, ◌∙◌, get_or, true, false}
use Rattle.std.specs.Prelude.{◌==◌}
use Rattle.std.proofs.lemmas.Bool.{eq-eqb}
use Rattle.inputs.proofs.PositionLemmas.{position_of-no_text, position_of-parse}
use Rattle.inputs.proofs.cell.read_position.Goals as goal

pub returns-in-Err : goal.returns-in-Err
returns-in-Err c = let cases = rw c.in-Err.is at c.from_utf8.ensures.cases in sym (position_of-no_text _ cases.0)

pub returns : goal.returns
returns c =
    let bs = c.args.bytes.now in
    let same = c.in-Ok.ensures.cases.0 in
    let no_plus : (get_or bs 0 0 == 43) ≡ false = sym c.begins_with.ensures ∙ c.if-begins_with.false in
    let other : get_or bs 0 0 ≢ 43 = λ e. clash (sym (eq-eqb (get_or bs 0 0) 43 e) ∙ no_plus) in
    c.ok.ensures.value ∙ sym (position_of-parse bs c.parse.result (rw same at c.parse.ensures.value.0) other)
  where
    clash : true ≡ false → ⊥
    clash h = cc h
