-- A range of a list, cut to its length.
use Rattle.std.proofs.Common.{◌≡◌, ◌∙◌, ℕ, zero, suc, ◌-◌, ◌≤◌, List, [], ◌∷◌, length, take, drop, refl, ap, arith}
use Rattle.std.specs.Prelude.{min}
use Rattle.std.proofs.lemmas.Grind.{common_steps}

module _ {X : Type 0} where
  nothing : (n : ℕ) → take {A = X} n [] ≡ []
  nothing zero = refl
  nothing (suc n) = refl

  -- so many from a place on are those up to the end, from that place on
  range_of : (a b : ℕ) (xs : List X) → take (b - a) (drop a xs) ≡ drop a (take b xs)
  range_of zero b xs = let e : b - 0 ≡ b = omega arith in ap (λ n. take n xs) e
  range_of (suc a) zero [] = nothing (0 - suc a)
  range_of (suc a) (suc b) [] = nothing (suc b - suc a)
  range_of (suc a) zero (x ∷ xs) = let e : 0 - suc a ≡ 0 = omega arith in ap (λ n. take n (drop a xs)) e
  range_of (suc a) (suc b) (x ∷ xs) = let e : suc b - suc a ≡ b - a = omega arith in ap (λ n. take n (drop a xs)) e ∙ range_of a b xs

  take_cut : (n : ℕ) (xs : List X) → take (min n (length xs)) xs ≡ take n xs
  take_cut n xs = grind (arith, common_steps)

  drop_cut : (n l : ℕ) (xs : List X) → length xs ≤ l → drop (min n l) xs ≡ drop n xs
  drop_cut n l xs le = grind (arith, common_steps)

  -- the items from one place up to another, where both are cut to the length
  pub cut_range : (from to : ℕ) (xs : List X)
      → take (min to (length xs) - min from (length xs)) (drop (min from (length xs)) xs) ≡ drop from (take to xs)
  cut_range from to xs = grind (arith, common_steps, range_of, take_cut, drop_cut)
