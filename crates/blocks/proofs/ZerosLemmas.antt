-- Zeros that are counted.
use Rattle.std.proofs.Common.{◌≡◌, ℕ, ℤ, pos, ◌+◌, ◌≤◌, true, List, [], ◌∷◌, ◌++◌, length, take, drop, refl, ap, arith}
use Rattle.std.specs.List.{list_all}
use Rattle.std.specs.Cmp.{signed_Decides}
use Rattle.std.proofs.lemmas.Bool.{and_parts}
use Rattle.std.proofs.lemmas.List.{drop-replicate, take-replicate, replicate-append-replicate}
use Rattle.blocks.specs.Ints.{is_zero, zeros_of}
use Rattle.std.proofs.lemmas.Grind.{common_steps}

-- numbers that all are 0 are so many zeros
pub zeros_are : (xs : List ℤ) → list_all is_zero xs ≡ true → xs ≡ zeros_of (length xs)
zeros_are [] e = refl
zeros_are (x ∷ xs) e =
    let both = and_parts (is_zero x) (list_all is_zero xs) e in
    let first : x ≡ pos 0 = (signed_Decides x (pos 0)).0 both.0 in
    rw first (ap (λ rest. pos 0 ∷ rest) (zeros_are xs both.1))

-- a run of zeros behind zeros
pub zeros_with_run : (n m start count : ℕ) → start + count ≤ m → zeros_of (n + count) ≡ zeros_of n ++ take count (drop start (zeros_of m))
zeros_with_run n m start count within = grind (arith, common_steps, drop-replicate, take-replicate, replicate-append-replicate)
