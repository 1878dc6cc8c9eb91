-- A run of a block's values, and of a column's.
use Rattle.std.proofs.Common.{◌≡◌, ℕ, ◌+◌, ◌-◌, ◌*◌, ◌/◌, ◌%◌, ◌≤◌, List, ◌++◌, length, take, drop, append_assoc, sym, ap, ◌∙◌, arith}
use Rattle.std.proofs.lemmas.List.{drop-drop, drop-take, length-drop, length-take, take-take}
use Rattle.std.proofs.Math.Seq.{take-add}
use Rattle.values.specs.declared.value.Value.{Value}

-- how long a run is that lies within
pub length-run : (values : List Value) (start run : ℕ) → start + run ≤ length values → length (take run (drop start values)) ≡ run
length-run values start run within = omega (arith, length-take run (drop start values), length-drop start values)

-- a run of the block that has a place is a run of the values from there on
pub run_of_block : (values : List Value) (at run : ℕ) → at % 1024 + run ≤ 1024
    → take run (drop (at % 1024) (take 1024 (drop (1024 * (at / 1024)) values))) ≡ take run (drop at values)
run_of_block values at run fits =
    let q = at / 1024 in
    let r = at % 1024 in
    let left = 1024 - r in
    let cut : 1024 ≡ r + left = omega arith in
    let here : 1024 * q + r ≡ at = omega arith in
    ap (λ n. take run (drop r (take n (drop (1024 * q) values)))) cut
    ∙ ap (take run) (drop-take r left (drop (1024 * q) values))
    ∙ take-take run left (drop r (drop (1024 * q) values)) (omega (arith, fits))
    ∙ ap (take run) (drop-drop r (1024 * q) values ∙ ap (λ n. drop n values) here)

-- the values so far, and the next run of them
pub run_more : (old values : List Value) (from moved run : ℕ) → (from + moved) % 1024 + run ≤ 1024
    → (old ++ take moved (drop from values))
    ++ take run (drop ((from + moved) % 1024) (take 1024 (drop (1024 * ((from + moved) / 1024)) values)))
    ≡ old ++ take (moved + run) (drop from values)
run_more old values from moved run fits =
    append_assoc old (take moved (drop from values)) _
    ∙ ap (λ more. old ++ more)
    (ap (λ more. take moved (drop from values) ++ more)
    (run_of_block values (from + moved) run fits ∙ ap (take run) (sym (drop-drop moved from values)))
    ∙ sym (take-add moved run (drop from values)))
