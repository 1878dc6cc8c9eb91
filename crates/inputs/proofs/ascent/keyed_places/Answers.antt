use Rattle.std.proofs.Common.{◌∙◌, ◌∷◌, ◌++◌, [], sym, arith}
use Rattle.std.proofs.lemmas.List.FromFn.{map-range_with_len_more}
use Rattle.inputs.specs.Filling.{keyed_at}
use Rattle.inputs.proofs.ascent.keyed_places.Goals as goal

pub loop-place-preserved : goal.loop-place-preserved
loop-place-preserved c =
    let n = c.loop-place.place in
    let column = c.args.column.now in
    c.in_ok-push.ensures.items
    ∙ (λ i. c.loop-place.invariant i ++ c.keyed_at.ensures i ∷ [])
    ∙ sym (map-range_with_len_more (keyed_at column) 0 n n (omega arith))
