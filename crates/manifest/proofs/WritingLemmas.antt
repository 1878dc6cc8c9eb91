-- What has been put so far, item by item.
use Rattle.std.proofs.Common.{◌≡◌, ◌<◌, ℕ, zero, suc, List, [], ◌∷◌, ◌++◌, length, get_or, map, take, ap, ◌∙◌, sym, append_assoc, arith}
use Rattle.std.specs.List.{flat_map, AllByRecursion}
use Rattle.std.proofs.lemmas.List.{append-nil}
use Rattle.std.proofs.lemmas.List.Concat.{flat_map-cons}

pub all_more : {A B : Type 0} (P : B → Type 0) (f : A → B) (xs : List A) (i : ℕ) (d : A) → i < length xs
    → AllByRecursion P (map f (take i xs)) → P (f (get_or xs i d)) → AllByRecursion P (map f (take (suc i) xs))
all_more P f [] i d lt all p = absurd (omega (arith, lt))
all_more P f (x ∷ xs) zero d lt all p = (p, tt)
all_more P f (x ∷ xs) (suc i) d lt all p = (all.0, all_more P f xs i d (omega (arith, lt)) all.1 p)

pub all_at : {A B : Type 0} (P : B → Type 0) (f : A → B) (xs : List A) (i : ℕ) (d : A) → i < length xs
    → AllByRecursion P (map f xs) → P (f (get_or xs i d))
all_at P f [] i d lt all = absurd (omega (arith, lt))
all_at P f (x ∷ xs) zero d lt all = all.0
all_at P f (x ∷ xs) (suc i) d lt all = all_at P f xs i d (omega (arith, lt)) all.1

pub text_more : {A B : Type 0} (text : B → List ℕ) (f : A → B) (xs : List A) (i : ℕ) (d : A) → i < length xs
    → flat_map text (map f (take (suc i) xs)) ≡ flat_map text (map f (take i xs)) ++ text (f (get_or xs i d))
text_more text f [] i d lt = absurd (omega (arith, lt))
text_more text f (x ∷ xs) zero d lt = flat_map-cons text (f x) [] ∙ append-nil (text (f x))
text_more text f (x ∷ xs) (suc i) d lt =
    flat_map-cons text (f x) (map f (take (suc i) xs))
    ∙ ap (λ (r : List ℕ). text (f x) ++ r) (text_more text f xs i d (omega (arith, lt)))
    ∙ sym (append_assoc (text (f x)) (flat_map text (map f (take i xs))) (text (f (get_or xs i d))))
    ∙ ap (λ (r : List ℕ). r ++ text (f (get_or xs i d))) (sym (flat_map-cons text (f x) (map f (take i xs))))
