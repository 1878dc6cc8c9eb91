use Rattle.std.proofs.Common.{◌∙◌, ◌∷◌, ◌++◌, [], Some, ap, arith, sym}
use Rattle.std.proofs.lemmas.Option.{get_or_from_slice_get, slice_get_within}
use Rattle.std.proofs.lemmas.List.{take_more}
use Rattle.merge.specs.View.{row_of}
use Rattle.merge.proofs.ViewLemmas.{length-modified, value_in_place}
use Rattle.merge.proofs.view.RowView.copy_gathered.Goals as goal
use Rattle.std.proofs.lemmas.Grind.{common_steps}

pub loop-col-preserved : goal.loop-col-preserved
loop-col-preserved c =
    let row = row_of c.args.self.now in
    let col = c.loop-col.col in
    let value = c.in_ok-copy.field-0 in
    let at = c.value_or.ensures ∙ ap Some (sym c.in_ok-copy.ensures.same) in
    let more = take_more row col value (slice_get_within row col value at) in
    c.in_ok-push.ensures.items
    ∙ (λ i. c.loop-col.invariant i ++ sym (get_or_from_slice_get row col value value at) i ∷ [])
    ∙ sym more

pub bounds-deref-col : goal.bounds-deref-col
bounds-deref-col c = grind (arith, common_steps, c.width-width.ensures, c.loop-col-test.true, c.in_ok-modified.ensures, c.deref.ensures, length-modified, value_in_place)

pub value_or-requires-clause-modified : goal.value_or-requires-clause-modified
value_or-requires-clause-modified c = grind (arith, common_steps, c.width-width.ensures, c.loop-col-test.true, c.in_ok-modified.ensures, c.deref.ensures, length-modified, value_in_place)
