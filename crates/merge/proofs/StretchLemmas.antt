-- Stretches, and what is left past them.
use Rattle.std.proofs.Common.{◌≡◌, ◌∙◌, ℕ, zero, suc, ◌+◌, ◌-◌, ◌<◌, ◌≤◌, List, [], ◌∷◌, ◌++◌, length, take, drop, get_or, ap}
use Rattle.std.proofs.Common.{arith}
use Rattle.std.proofs.lemmas.Option.{slice_get-get_or}
use Rattle.merge.specs.Stretches.{stretch_rows, IsStretch, IsStableStretch}
use Rattle.merge.specs.declared.stretch.Stretch.{Stretch}
use Rattle.merge.specs.declared.stretch.Stretch.TheVariants.{Stable, Row as One}
use Rattle.merge.specs.declared.stretch.StableStretch.{StableStretch}
use Rattle.merge.proofs.CursorLemmas.{drop-at}
use Rattle.std.proofs.lemmas.Grind.{common_steps}

pub take_append : {X : Type 0} (n : ℕ) (xs ys : List X) → length xs ≤ n → take n (xs ++ ys) ≡ xs ++ take (n - length xs) ys
take_append n [] ys le = let e : n ≡ n - 0 = omega arith in ap (λ m. take m ys) e
take_append zero (x ∷ xs) ys le = absurd (omega arith)
take_append (suc n) (x ∷ xs) ys le =
    let less : length xs ≤ n = omega arith in
    let e : n - length xs ≡ suc n - suc (length xs) = omega arith in
    ap (λ zs. x ∷ zs) (take_append n xs ys less ∙ ap (λ m. xs ++ take m ys) e)

-- a stretch has a row
pub stretch_some : (depth : ℕ) (stretch : Stretch) → IsStretch depth stretch → 0 < length (stretch_rows stretch)
stretch_some depth (Stable stretch) h = grind (arith, common_steps)
stretch_some depth (One view) h = omega arith

-- what no layer from a number on modifies, none from the next one on does
pub stretch_above : (depth : ℕ) (stretch : Stretch) → IsStretch depth stretch → IsStretch (suc depth) stretch
stretch_above depth (Stable stretch) h = h
stretch_above depth (One view) h =
    record { read = λ low. h.read (omega arith); write = λ low. h.write (omega arith); trans = λ low. h.trans (omega arith) }

take_next : {X : Type 0} (n : ℕ) (x : X) (xs : List X) → 0 < n → take n (x ∷ xs) ≡ x ∷ take (n - 1) xs
take_next zero x xs h = absurd (omega arith)
take_next (suc n) x xs h = let e : n ≡ suc n - 1 = omega arith in ap (λ m. x ∷ take m xs) e

-- the first row of a stable stretch, and the others
pub stretch_next : (stretch : StableStretch) → IsStableStretch stretch
    → stretch_rows (Stable stretch) ≡ get_or stretch.table.now.rows stretch.sid [] ∷ take (stretch.len - 1)
    (drop (stretch.sid + 1) stretch.table.now.rows)
stretch_next stretch h = grind (arith, common_steps, drop-at, slice_get-get_or, take_next)

-- the same, with what is left past it
pub stretch_first : (stretch : StableStretch) → IsStableStretch stretch
    → stretch_rows (Stable stretch) ≡ get_or stretch.table.now.rows stretch.sid [] ∷ drop 1 (stretch_rows (Stable stretch))
stretch_first stretch h = grind (arith, common_steps, stretch_next)
