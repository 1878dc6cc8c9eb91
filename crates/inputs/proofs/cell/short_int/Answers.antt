use Rattle.std.proofs.Common.{◌≡◌, ◌∙◌, ◌-◌, length, take, drop, Some, sym, ap, arith}
use Rattle.std.proofs.lemmas.List.{length-drop, take_all}
use Rattle.inputs.proofs.CellLemmas.{int_of-minus, plain-some, value-negated}
use Rattle.inputs.proofs.cell.short_int.Goals as goal

pub returns-in-Some : goal.returns-in-Some
returns-in-Some c =
    let bs = c.args.bytes.now in
    let rest : take (length bs - 1) (drop 1 bs) ≡ drop 1 bs = take_all (length bs - 1) (drop 1 bs) (omega (arith, length-drop 1 bs)) in
    let digits = rw rest at c.in-Some.ensures.digits in
    let value = rw rest at c.in-Some.ensures.value in
    let small = rw rest at c.in-Some.ensures.small in
    int_of-minus bs (sym c.begins_with.ensures ∙ c.if-begins_with.true) digits small
    ∙ ap Some (sym (value-negated _ c.in-Some.number value small))

pub returns-else-begins_with : goal.returns-else-begins_with
returns-else-begins_with c =
    let said = c.few_digits-else-begins_with.ensures in
    plain-some c.args.bytes.now c.few_digits-else-begins_with.result said.digits said.value said.small
