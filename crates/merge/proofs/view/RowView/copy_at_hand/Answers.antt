use Rattle.std.proofs.Common.{◌∙◌, ◌∷◌, ◌++◌, [], Some, ap, sym}
use Rattle.std.proofs.lemmas.Option.{get_or_from_slice_get, slice_get_within}
use Rattle.std.proofs.lemmas.List.{take_more}
use Rattle.merge.specs.View.{row_of}
use Rattle.merge.proofs.view.RowView.copy_at_hand.Goals as goal

pub loop-col-preserved : goal.loop-col-preserved
loop-col-preserved c =
    let row = row_of c.args.self.now in
    let col = c.loop-col.col in
    let value = c.in_ok-copy.field-0 in
    let at = c.value.ensures ∙ ap Some (sym c.in_ok-copy.ensures.same) in
    let more = take_more row col value (slice_get_within row col value at) in
    c.in_ok-push.ensures.items
    ∙ (λ i. c.loop-col.invariant i ++ sym (get_or_from_slice_get row col value value at) i ∷ [])
    ∙ sym more
