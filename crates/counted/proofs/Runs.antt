-- One entry in the place of a run of them.
use Rattle.std.proofs.Common.{◌≡◌, ℕ, ◌+◌, ◌≤◌, List, [], ◌∷◌, ◌++◌, length, take, drop, ap, ◌∙◌, arith, append_assoc}
use Rattle.std.proofs.Common.{length-take}
use Rattle.std.proofs.lemmas.List.{drop-drop}
use Rattle.model.specs.declared.entry.Entry.{Entry}
use Rattle.counted.specs.Edits.{edited}
use Rattle.counted.proofs.Places.{take-past, drop-past}

pub run_step : (es : List Entry) (start k : ℕ) (e : Entry) → start ≤ length es
    → edited (start + 1) 1 [] (take start es ++ e ∷ drop k es) ≡ take start es ++ e ∷ drop (k + 1) es
run_step es start k e le =
    let b = take start es in
    let d = drop k es in
    let n : length b ≡ start = omega (arith, length-take start es) in
    ap (λ xs. xs ++ drop (start + 1 + 1) (b ++ e ∷ d)) (take-past b (e ∷ d) 1 (start + 1) (omega arith))
    ∙ ap (λ xs. (b ++ e ∷ []) ++ xs) (drop-past b (e ∷ d) 2 (start + 1 + 1) (omega arith))
    ∙ append_assoc b (e ∷ []) (drop 1 d) ∙ ap (λ xs. b ++ e ∷ xs) (drop-drop 1 k es)

pub insert_is : (es : List Entry) (at : ℕ) (e : Entry) → edited at 0 (e ∷ []) es ≡ take at es ++ e ∷ drop at es
insert_is es at e = ap (λ n. take at es ++ e ∷ drop n es) (let f : at + 0 ≡ at = omega arith in f)
