use Rattle.std.proofs.Common.{◌∙◌, ◌∷◌, ◌++◌, ◌+◌, [], List, ℕ, ap, sym, arith}
use Rattle.std.specs.List.{range_with_len}
use Rattle.std.proofs.lemmas.List.{map-id}
use Rattle.std.proofs.lemmas.List.FromFn.{map-range_with_len_more}
use Rattle.inputs.proofs.ascent.places_in_turn.Goals as goal

pub loop-place-preserved : goal.loop-place-preserved
loop-place-preserved c =
    let n = c.loop-place.place in
    let more =
    sym (map-id (range_with_len 0 (n + 1)))
    ∙ map-range_with_len_more (λ (p : ℕ). p) 0 n n (omega arith)
    ∙ ap (λ (ps : List ℕ). ps ++ n ∷ []) (map-id (range_with_len 0 n)) in
    c.in_ok-push.ensures.items ∙ ap (λ (ps : List ℕ). ps ++ n ∷ []) c.loop-place.invariant ∙ sym more
