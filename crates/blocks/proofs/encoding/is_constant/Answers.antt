use Rattle.std.proofs.Common.{◌≡◌, ◌&&◌, get_or, true, false, not, sym, ap, ◌∙◌, arith}
use Rattle.std.specs.List.{list_all}
use Rattle.std.proofs.lemmas.List.Folds.{list_all_at, list_all_more}
use Rattle.std.proofs.lemmas.Option.{get_or_from_slice_get}
use Rattle.values.specs.Lent.{value_of}
use Rattle.blocks.proofs.EncodingLemmas.{same, all_first, not_not}
use Rattle.blocks.proofs.encoding.is_constant.Goals as goal

pub returns-then-ne : goal.returns-then-ne
returns-then-ne c =
    let values = c.args.block.now.values in
    let i = c.loop-i.i in
    let first = value_of c.get-first.result in
    let read : get_or values i first ≡ value_of c.get.result = get_or_from_slice_get values i (value_of c.get.result) first c.get.ensures in
    let begins : get_or values 0 first ≡ first = get_or_from_slice_get values 0 first first c.get-first.ensures in
    let differs : same first (value_of c.get.result) ≡ false = not_not _ ∙ ap not (sym c.ne.ensures ∙ c.if-ne.true) in
    sym (list_all_at (same first) values i first (omega (arith, c.loop-i-test.true, c.len-i-end.ensures.len))
    (ap (same first) read ∙ differs))
    ∙ ap (λ v. list_all (same v) values) (sym begins) ∙ all_first values first (omega (arith, c.if-len-lt2.false, c.len.ensures.len))

pub loop-i-preserved : goal.loop-i-preserved
loop-i-preserved c =
    let values = c.args.block.now.values in
    let i = c.loop-i.i in
    let first = value_of c.get-first.result in
    let read : get_or values i first ≡ value_of c.get.result = get_or_from_slice_get values i (value_of c.get.result) first c.get.ensures in
    let equal : same first (value_of c.get.result) ≡ true = not_not _ ∙ ap not (sym c.ne.ensures ∙ c.if-ne.false) in
    list_all_more (same first) values i first (omega (arith, c.loop-i-test.true, c.len-i-end.ensures.len))
    ∙ ap (λ b. b && same first (get_or values i first)) c.loop-i.invariant ∙ ap (same first) read ∙ equal
