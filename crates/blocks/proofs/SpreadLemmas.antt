-- The eight truths of a byte by one product: tried for each byte.
use Rattle.std.proofs.Common.{◌≡◌, ℕ, zero, suc, ◌*◌, ◌/◌, ◌%◌, ◌<◌, ◌==◌, ◌&&◌, Bool, true, false, cond, List, [], ◌∷◌, map, bit_and, w64, refl, ap, subst, ◌∙◌, arith, inl, inr}
use Rattle.std.specs.Int.{to_le_bytes}
use Rattle.std.proofs.lemmas.Bool.{cases_lt, eqb-true}
use Rattle.blocks.specs.Payload.{bits_of}

-- the truths of a byte, 1 for true and 0 for false
abbrev pub byte_truths : ℕ → List ℕ
byte_truths byte = map (λ truth. cond truth 1 0) (bits_of byte)

-- the bytes of the product
abbrev pub spread : ℕ → List ℕ
spread byte = to_le_bytes w64 (bit_and (byte * 9241421688590303745 % 18446744073709551616 / 128) 72340172838076673)

-- whether two lists are the same
abbrev same : List ℕ → List ℕ → Bool
same [] [] = true
same [] (y ∷ ys) = false
same (x ∷ xs) [] = false
same (x ∷ xs) (y ∷ ys) = (x == y) && same xs ys

both : (a b : Bool) → (a && b) ≡ true → (a ≡ true) × (b ≡ true)
both true true e = (refl, refl)
both true false e = absurd cc
both false b e = absurd cc

same_is : (xs ys : List ℕ) → same xs ys ≡ true → xs ≡ ys
same_is [] [] e = refl
same_is [] (y ∷ ys) e = absurd cc
same_is (x ∷ xs) [] e = absurd cc
same_is (x ∷ xs) (y ∷ ys) e =
    let h = both (x == y) (same xs ys) e in
    ap (λ z. z ∷ xs) (eqb-true x y h.0) ∙ ap (λ zs. y ∷ zs) (same_is xs ys h.1)

-- whether the bytes below so many have their truths so
abbrev all_same : ℕ → Bool
all_same zero = true
all_same (suc n) = same (spread n) (byte_truths n) && all_same n

tried : all_same 256 ≡ true
tried = refl

one_of : (n byte : ℕ) → all_same n ≡ true → byte < n → spread byte ≡ byte_truths byte
one_of zero byte e lt = absurd (omega arith)
one_of (suc n) byte e lt =
    let h = both (same (spread n) (byte_truths n)) (all_same n) e in
    elim (cases_lt byte n) [
      | inl less ↦ one_of n byte h.1 less
      | inr more ↦ subst (λ b. spread b ≡ byte_truths b) (omega arith) (same_is (spread n) (byte_truths n) h.0)
    ]

pub spread-byte_truths : (byte : ℕ) → byte < 256 → spread byte ≡ byte_truths byte
spread-byte_truths byte lt = one_of 256 byte tried lt
