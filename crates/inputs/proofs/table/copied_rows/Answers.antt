use Rattle.std.proofs.Common.{◌++◌, ◌∷◌, ◌∙◌, [], sym}
use Rattle.std.proofs.lemmas.List.{take_more}
use Rattle.std.proofs.lemmas.Option.{get_or_from_slice_get, slice_get_within}
use Rattle.inputs.proofs.table.copied_rows.Goals as goal

pub loop-sid-preserved : goal.loop-sid-preserved
loop-sid-preserved c =
    let rows = c.args.table.now.rows in
    let sid = c.loop-sid.sid in
    let row = c.in_ok-row.field-0 in
    c.in_ok-push.ensures.items
    ∙ (λ i. c.loop-sid.invariant i ++ sym (get_or_from_slice_get rows sid row row c.in_ok-row.ensures) i ∷ [])
    ∙ sym (take_more rows sid row (slice_get_within rows sid row c.in_ok-row.ensures))
