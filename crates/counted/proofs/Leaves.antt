-- The entries of leaves.
use Rattle.std.proofs.Common.{◌≡◌, ℕ, zero, suc, ◌+◌, ◌-◌, ◌≤◌, List, [], ◌∷◌, ◌++◌, length, take, drop, refl, ap, sym, ◌∙◌, arith}
use Rattle.std.proofs.Common.{append_assoc}
use Rattle.std.proofs.lemmas.List.{take_rest, drop-drop, drop-append-le, length-take-le, take-append-drop}
use Rattle.model.specs.declared.entry.Entry.{Entry}
use Rattle.std.proofs.Common.{get_or}
use Rattle.std.specs.Prelude.{Option, Some, None, slice_get}
use Rattle.counted.specs.Edits.{put_items, edited}
use Rattle.counted.proofs.Places.{take-past}

pub leaf_edited : (xs : List Entry) (at gone : ℕ) (put : List Entry)
    → (take at xs ++ put) ++ take (length xs - (at + gone)) (drop (at + gone) xs) ≡ edited at gone put xs
leaf_edited xs at gone put =
    ap (λ ys. (take at xs ++ put) ++ ys) (take_rest xs (at + gone)) ∙ append_assoc (take at xs) put (drop (at + gone) xs)

pub put_items-le : (put : Option Entry) → length (put_items put) ≤ 1
put_items-le None = omega arith
put_items-le (Some e) = omega arith

-- what goes lies in the child in which it ends
pub gone_within : (at gone end : ℕ) → gone ≤ 1 → (1 ≤ at + gone → 1 ≤ end) → gone ≤ end
gone_within at zero end one some = omega arith
gone_within at (suc n) end one some = let h = some (omega arith) in omega arith

-- what follows in order, where only the first so many of a leaf's entries are taken
pub leaf_front : (xs es : List Entry) (at k : ℕ) → k ≤ length xs → drop at es ≡ xs ++ drop (at + length xs) es
    → drop at es ≡ take k xs ++ drop (at + length (take k xs)) es
leaf_front xs es at k le e =
    let rest = drop (at + length xs) es in
    let past : drop (at + length (take k xs)) es ≡ drop k xs ++ rest =
    ap (λ m. drop (at + m) es) (length-take-le k xs le) ∙ sym (drop-drop k at es) ∙ ap (drop k) e ∙ drop-append-le k xs rest le in
    e ∙ ap (λ ys. ys ++ rest) (sym (take-append-drop k xs)) ∙ append_assoc (take k xs) (drop k xs) rest
    ∙ ap (λ ys. take k xs ++ ys) (sym past)

-- a leaf that has run out is followed by the next one
pub refilled : (old new es : List Entry) (next left : ℕ) → length old ≡ 0 → length new ≤ left
    → drop next es ≡ new ++ drop (next + length new) es
    → old ++ take left (drop next es) ≡ new ++ take (left - length new) (drop (next + length new) es)
refilled [] new es next left none le e =
    ap (take left) e ∙ take-past new (drop (next + length new) es) (left - length new) left (omega arith)
refilled (x ∷ old) new es next left none le e = absurd (omega arith)

first_at : (es : List Entry) (at : ℕ) (x : Entry) (rest : List Entry) → drop at es ≡ x ∷ rest → Some x ≡ slice_get es at
first_at [] zero x rest h = cc
first_at [] (suc at) x rest h = cc
first_at (e ∷ es) zero x rest h = cc
first_at (e ∷ es) (suc at) x rest h = first_at es at x rest h

first_of : (l : List Entry) (d : Entry) → 1 ≤ length l → l ≡ get_or l 0 d ∷ drop 1 l
first_of [] d h = absurd (omega arith)
first_of (x ∷ l) d h = refl

-- the entry at an index, by the leaf from there on
pub entry_at : (es : List Entry) (at : ℕ) (l : List Entry) (x d : Entry) → 1 ≤ length l → x ≡ get_or l 0 d
    → drop at es ≡ l ++ drop (at + length l) es
    → Some x ≡ slice_get es at
entry_at es at l x d some is e =
    let rest = drop (at + length l) es in
    let here = ap (λ ys. ys ++ rest) (first_of l d some) ∙ ap (λ y. y ∷ (drop 1 l ++ rest)) (sym is) in
    first_at es at x (drop 1 l ++ rest) (e ∙ here)
