use Rattle.std.proofs.Common.{◌≡◌, ◌∙◌, ◌++◌, Bool, true, List, [], length, take, ap, sym, arith}
use Rattle.std.specs.Prelude.{ℤ, cond}
use Rattle.std.proofs.lemmas.List.{append-nil, length-map}
use Rattle.values.specs.declared.value.Value.{Value}
use Rattle.model.specs.Table.{rows_of}
use Rattle.txn.specs.Txn.{image_of}
use Rattle.pdt_c.specs.Cells.{numbers_of}
use Rattle.pdt_c.specs.Texts.{has_texts}
use Rattle.pdt_c.specs.Reads.{column_from}
use Rattle.pdt_c.proofs.NumberLemmas.{range_cut, numbers_cut}
use Rattle.pdt_c.proofs.calls.texts.read_texts.Goals as goal

pub returns-clause-lens : goal.returns-clause-lens
returns-clause-lens c =
    let txn = c.args.txn.now in
    let col = c.args.col in
    let from = c.args.from in
    let room = length c.args.lens.now in
    let to = c.min-to.result in
    let rows = rows_of (image_of txn) in
    let many = length-map (image_of txn) (λ e. e.1) in
    let so_far : List ℤ = take c.loop-run.done c.loop-run.lens in
    let has : has_texts txn col ≡ true = sym c.is_of_texts.ensures ∙ c.if-not-is_of_texts.false in
    let cut = range_cut from room to rows
    (λ le. omega (arith, le, many, c.len.ensures, c.len.type_inv, c.saturating_add.ensures, c.min-to.ensures))
    (λ le. omega (arith, le, many, c.len.ensures, c.len.type_inv, c.saturating_add.ensures, c.min-to.ensures)) in
    sym (append-nil so_far)
    ∙ ap (λ (vs : List Value). so_far ++ numbers_of vs) (sym c.in-None.ensures.steps.0)
    ∙ c.loop-run.invariant.4
    ∙ numbers_cut col from room to rows cut
    ∙ ap (λ (b : Bool). take room (cond b (numbers_of (column_from txn col from)) [])) (sym has)
