-- Truths in bytes, and one truth more.
use Rattle.std.proofs.Common.{◌≡◌, ℕ, zero, suc, ◌+◌, ◌-◌, ◌*◌, ◌/◌, ◌%◌, ◌^◌, ◌<◌, ◌≤◌, Bool, true, false, cond, List, [], ◌∷◌, ◌++◌, length, take, get_or, slice_set, refl, sym, ap, subst, ◌∙◌, arith}
use Rattle.std.proofs.lemmas.List.{get_or_default, length-append}
use Rattle.values.specs.declared.limits.TheConstants.{MAX_BLOCK_VALUES}
use Rattle.blocks.specs.Payload.{ArePacked, IsPacked, all_bits, byte_count, byte_of, packed}
use Rattle.blocks.proofs.BitsLemmas.{byte_of-lt, length-packed, length-truths, packed-truths, packed-IsPacked, truths-packed}
use Rattle.std.proofs.lemmas.Grind.{common_steps}

-- a truth's bit at a place of its byte
abbrev pub weight : Bool → ℕ → ℕ
weight t place = cond t (2 ^ (7 - place)) 0

-- one truth more in a byte that isn't full
byte_more : (bs : List Bool) (t : Bool) → length bs < 8 → byte_of (bs ++ t ∷ []) ≡ byte_of bs + weight t (length bs)
byte_more [] true lt = refl
byte_more [] false lt = refl
byte_more (a ∷ []) true lt = omega arith
byte_more (a ∷ []) false lt = omega arith
byte_more (a ∷ b ∷ []) true lt = omega arith
byte_more (a ∷ b ∷ []) false lt = omega arith
byte_more (a ∷ b ∷ c ∷ []) true lt = omega arith
byte_more (a ∷ b ∷ c ∷ []) false lt = omega arith
byte_more (a ∷ b ∷ c ∷ d ∷ []) true lt = omega arith
byte_more (a ∷ b ∷ c ∷ d ∷ []) false lt = omega arith
byte_more (a ∷ b ∷ c ∷ d ∷ e ∷ []) true lt = omega arith
byte_more (a ∷ b ∷ c ∷ d ∷ e ∷ []) false lt = omega arith
byte_more (a ∷ b ∷ c ∷ d ∷ e ∷ f ∷ []) true lt = omega arith
byte_more (a ∷ b ∷ c ∷ d ∷ e ∷ f ∷ []) false lt = omega arith
byte_more (a ∷ b ∷ c ∷ d ∷ e ∷ f ∷ g ∷ []) true lt = omega arith
byte_more (a ∷ b ∷ c ∷ d ∷ e ∷ f ∷ g ∷ []) false lt = omega arith
byte_more (a ∷ b ∷ c ∷ d ∷ e ∷ f ∷ g ∷ h ∷ bs) t lt = absurd (omega arith)

-- one truth more where all bytes are full
pack_new : (n : ℕ) (bs : List Bool) (t : Bool) → length bs ≡ 8 * n → packed (suc n) (bs ++ t ∷ []) ≡ packed n bs ++ weight t 0 ∷ []
pack_new zero [] true is = refl
pack_new zero [] false is = refl
pack_new zero (b ∷ bs) t is = absurd (omega (arith, is))
pack_new (suc n) [] t is = absurd (omega (arith, is))
pack_new (suc n) (a ∷ []) t is = absurd (omega (arith, is))
pack_new (suc n) (a ∷ b ∷ []) t is = absurd (omega (arith, is))
pack_new (suc n) (a ∷ b ∷ c ∷ []) t is = absurd (omega (arith, is))
pack_new (suc n) (a ∷ b ∷ c ∷ d ∷ []) t is = absurd (omega (arith, is))
pack_new (suc n) (a ∷ b ∷ c ∷ d ∷ e ∷ []) t is = absurd (omega (arith, is))
pack_new (suc n) (a ∷ b ∷ c ∷ d ∷ e ∷ f ∷ []) t is = absurd (omega (arith, is))
pack_new (suc n) (a ∷ b ∷ c ∷ d ∷ e ∷ f ∷ g ∷ []) t is = absurd (omega (arith, is))
pack_new (suc n) (a ∷ b ∷ c ∷ d ∷ e ∷ f ∷ g ∷ h ∷ bs) t is =
    ap (λ rest. byte_of (a ∷ b ∷ c ∷ d ∷ e ∷ f ∷ g ∷ h ∷ bs) ∷ rest) (pack_new n bs t (omega (arith, is)))

-- and where the last isn't
pack_into : (q : ℕ) (bs : List Bool) (t : Bool) (r : ℕ) → length bs ≡ 8 * q + r → r < 8
    → packed (suc q) (bs ++ t ∷ []) ≡ slice_set (packed (suc q) bs) q (get_or (packed (suc q) bs) q 0 + weight t r)
pack_into zero bs t r is lt =
    let same : length bs ≡ r = omega (arith, is) in
    ap (λ byte. byte ∷ []) (byte_more bs t (omega (arith, same, lt)) ∙ ap (λ k. byte_of bs + weight t k) same)
pack_into (suc q) [] t r is lt = absurd (omega (arith, is))
pack_into (suc q) (a ∷ []) t r is lt = absurd (omega (arith, is))
pack_into (suc q) (a ∷ b ∷ []) t r is lt = absurd (omega (arith, is))
pack_into (suc q) (a ∷ b ∷ c ∷ []) t r is lt = absurd (omega (arith, is))
pack_into (suc q) (a ∷ b ∷ c ∷ d ∷ []) t r is lt = absurd (omega (arith, is))
pack_into (suc q) (a ∷ b ∷ c ∷ d ∷ e ∷ []) t r is lt = absurd (omega (arith, is))
pack_into (suc q) (a ∷ b ∷ c ∷ d ∷ e ∷ f ∷ []) t r is lt = absurd (omega (arith, is))
pack_into (suc q) (a ∷ b ∷ c ∷ d ∷ e ∷ f ∷ g ∷ []) t r is lt = absurd (omega (arith, is))
pack_into (suc q) (a ∷ b ∷ c ∷ d ∷ e ∷ f ∷ g ∷ h ∷ bs) t r is lt =
    ap (λ rest. byte_of (a ∷ b ∷ c ∷ d ∷ e ∷ f ∷ g ∷ h ∷ bs) ∷ rest) (pack_into q bs t r (omega (arith, is)) lt)

-- and the sum is a byte
into_fits : (q : ℕ) (bs : List Bool) (t : Bool) (r : ℕ) → length bs ≡ 8 * q + r → r < 8 → get_or (packed (suc q) bs) q 0 + weight t r < 256
into_fits zero bs t r is lt =
    let same : length bs ≡ r = omega (arith, is) in
    omega (arith, byte_of-lt (bs ++ t ∷ []), byte_more bs t (omega (arith, same, lt)), ap (λ k. weight t k) same)
into_fits (suc q) [] t r is lt = absurd (omega (arith, is))
into_fits (suc q) (a ∷ []) t r is lt = absurd (omega (arith, is))
into_fits (suc q) (a ∷ b ∷ []) t r is lt = absurd (omega (arith, is))
into_fits (suc q) (a ∷ b ∷ c ∷ []) t r is lt = absurd (omega (arith, is))
into_fits (suc q) (a ∷ b ∷ c ∷ d ∷ []) t r is lt = absurd (omega (arith, is))
into_fits (suc q) (a ∷ b ∷ c ∷ d ∷ e ∷ []) t r is lt = absurd (omega (arith, is))
into_fits (suc q) (a ∷ b ∷ c ∷ d ∷ e ∷ f ∷ []) t r is lt = absurd (omega (arith, is))
into_fits (suc q) (a ∷ b ∷ c ∷ d ∷ e ∷ f ∷ g ∷ []) t r is lt = absurd (omega (arith, is))
into_fits (suc q) (a ∷ b ∷ c ∷ d ∷ e ∷ f ∷ g ∷ h ∷ bs) t r is lt = into_fits q bs t r (omega (arith, is)) lt

-- ---- so many truths, and one more

module _ (count : ℕ) (bs : List Bool) (is : length bs ≡ count) (bytes : List ℕ) (packs : bytes ≡ packed (byte_count count) bs)
    (t : Bool) (bit : ℕ) (bit_is : bit ≡ weight t (count % 8)) where
  -- where the last byte is full, it stands in a byte of its own
  pub more_in_new : count % 8 ≡ 0 → bytes ++ bit ∷ [] ≡ packed (byte_count (count + 1)) (bs ++ t ∷ [])
  more_in_new full =
      let n = byte_count count in
      let next : suc n ≡ byte_count (count + 1) = omega (arith, full) in
      (λ i. packs i ++ bit_is i ∷ [])
      ∙ ap (λ r. packed n bs ++ weight t r ∷ []) full
      ∙ sym (pack_new n bs t (omega (arith, is, full)))
      ∙ ap (λ k. packed k (bs ++ t ∷ [])) next

  module _ (part : count % 8 ≡ 0 → ⊥) where
    bytes_of_part : byte_count count ≡ suc (count / 8)
    bytes_of_part = omega (arith, part)

    parted : length bs ≡ 8 * (count / 8) + count % 8
    parted = omega (arith, is)

    bytes_are : bytes ≡ packed (suc (count / 8)) bs
    bytes_are = packs ∙ ap (λ k. packed k bs) bytes_of_part

    pub last_there : count / 8 < length bytes
    last_there = omega (arith, ap length bytes_are, length-packed (suc (count / 8)) bs)

    -- and else in the last byte
    pub more_in_last : (byte : ℕ) → byte ≡ get_or bytes (count / 8) byte
        → slice_set bytes (count / 8) (byte + bit) ≡ packed (byte_count (count + 1)) (bs ++ t ∷ [])
    more_in_last byte read =
        let q = count / 8 in
        let next : suc q ≡ byte_count (count + 1) = omega (arith, part) in
        let here : byte ≡ get_or (packed (suc q) bs) q 0 =
        read ∙ get_or_default bytes q byte 0 last_there ∙ ap (λ xs. get_or xs q 0) bytes_are in
        (λ i. slice_set (bytes_are i) q (here i + bit_is i))
        ∙ sym (pack_into q bs t (count % 8) parted (omega arith))
        ∙ ap (λ k. packed k (bs ++ t ∷ [])) next

    pub last_fits : (byte : ℕ) → byte ≡ get_or bytes (count / 8) byte → byte + bit < 256
    last_fits byte read =
        let q = count / 8 in
        let here : byte ≡ get_or (packed (suc q) bs) q 0 =
        read ∙ get_or_default bytes q byte 0 last_there ∙ ap (λ xs. get_or xs q 0) bytes_are in
        omega (arith, here, bit_is, into_fits q bs t (count % 8) parted (omega arith))

-- ---- as a list of truths

module _ (count : ℕ) (bytes : List ℕ) (h : IsPacked count bytes) where
  abbrev truths : List Bool
  truths = take count (all_bits bytes)

  pub are_packed : ArePacked count bytes
  are_packed = (truths, length-truths count bytes h.whole, sym (packed-truths count bytes h.small h.whole h.unused))

  module _ (ts : List Bool) (longer : List ℕ) (is : longer ≡ packed (byte_count (count + length ts)) (truths ++ ts)) where
    counted : length (truths ++ ts) ≡ count + length ts
    counted = length-append truths ts ∙ ap (λ n. n + length ts) (length-truths count bytes h.whole)

    pub longer_IsPacked : count + length ts ≤ MAX_BLOCK_VALUES → IsPacked (count + length ts) longer
    longer_IsPacked few =
        subst (IsPacked (count + length ts)) (sym is)
        (subst (λ n. IsPacked n (packed (byte_count n) (truths ++ ts))) counted
        (packed-IsPacked (truths ++ ts) (omega (arith, counted, few))))

    pub longer_truths : take (count + length ts) (all_bits longer) ≡ truths ++ ts
    longer_truths = grind (arith, common_steps, counted, truths-packed)
