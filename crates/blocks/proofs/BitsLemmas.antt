-- Truths packed into bytes are read back, and bytes with no set padding are the truths that they hold, packed.
use Rattle.std.proofs.Common.{ne_eqb, slice_get, bit_and, Some, ◌≡◌, ℕ, zero, suc, ◌+◌, ◌-◌, ◌*◌, ◌/◌, ◌%◌, ◌^◌, ◌<◌, ◌≤◌, Bool, true, false, cond, not, ◌==◌, ◌||◌, List, [], ◌∷◌, ◌++◌, length, get_or, take, drop, append_assoc, refl, sym, ap, ◌∙◌, arith, inl, inr, rules}
use Rattle.std.specs.List.{list_any}
use Rattle.std.specs.Int.{bit_at}
use Rattle.std.proofs.lemmas.Bool.{cases_lt}
use Rattle.std.proofs.lemmas.List.{length-drop, length-take, get_or-take, get_or-drop, get_or_past, ext_get_or, drop_more, drop_all, drop-drop, get_or_read}
use Rattle.std.proofs.lemmas.Option.{slice_get-get_or}
use Rattle.std.proofs.lemmas.Nat.{mod-pow-add, pow_pos}
use Rattle.std.proofs.lemmas.Nat.Bits.{bit_at-lt, bit_at-zero, shr_and_one}
use Rattle.values.specs.declared.limits.TheConstants.{MAX_BLOCK_VALUES}
use Rattle.blocks.specs.Payload.{AreBytes, IsPacked, byte_count, bit_of, byte_of, packed, low_bits, bits_of, all_bits, has_set_padding}
use Rattle.std.proofs.lemmas.Grind.{common_steps}

-- ---- one byte

-- a bit that is tested and written again
bit_again : (b : ℕ) → b < 2 → cond (b == 1) 1 0 ≡ b
bit_again zero lt = refl
bit_again (suc zero) lt = refl
bit_again (suc (suc b)) lt = absurd (omega arith)

-- a truth that is written and tested again
truth_again : (b : Bool) → (cond b 1 0 == 1) ≡ b
truth_again true = refl
truth_again false = refl

-- a byte is the sum of its bits
byte_by_bits : (byte : ℕ) → byte < 256
    → 128 * bit_at byte 7 + 64 * bit_at byte 6 + 32 * bit_at byte 5 + 16 * bit_at byte 4 + 8 * bit_at byte 3 + 4 * bit_at byte 2
    + 2 * bit_at byte 1 + bit_at byte 0
    ≡ byte
byte_by_bits byte lt = omega arith

byte_of-bits_of : (byte : ℕ) (rest : List Bool) → byte < 256 → byte_of (bits_of byte ++ rest) ≡ byte
byte_of-bits_of byte rest lt = omega (arith, bit_again, bit_at-lt, byte_by_bits)

-- the bits of a sum of bits, each at its weight
module _ (a b c d e f g h : ℕ) (la : a < 2) (lb : b < 2) (lc : c < 2) (ld : d < 2) (le : e < 2) (lf : f < 2) (lg : g < 2) (lh : h < 2) where
  bit_7 : bit_at (128 * a + 64 * b + 32 * c + 16 * d + 8 * e + 4 * f + 2 * g + h) 7 ≡ a
  bit_7 = omega arith

  bit_6 : bit_at (128 * a + 64 * b + 32 * c + 16 * d + 8 * e + 4 * f + 2 * g + h) 6 ≡ b
  bit_6 = omega arith

  bit_5 : bit_at (128 * a + 64 * b + 32 * c + 16 * d + 8 * e + 4 * f + 2 * g + h) 5 ≡ c
  bit_5 = omega arith

  bit_4 : bit_at (128 * a + 64 * b + 32 * c + 16 * d + 8 * e + 4 * f + 2 * g + h) 4 ≡ d
  bit_4 = omega arith

  bit_3 : bit_at (128 * a + 64 * b + 32 * c + 16 * d + 8 * e + 4 * f + 2 * g + h) 3 ≡ e
  bit_3 = omega arith

  bit_2 : bit_at (128 * a + 64 * b + 32 * c + 16 * d + 8 * e + 4 * f + 2 * g + h) 2 ≡ f
  bit_2 = omega arith

  bit_1 : bit_at (128 * a + 64 * b + 32 * c + 16 * d + 8 * e + 4 * f + 2 * g + h) 1 ≡ g
  bit_1 = omega arith

  bit_0 : bit_at (128 * a + 64 * b + 32 * c + 16 * d + 8 * e + 4 * f + 2 * g + h) 0 ≡ h
  bit_0 = omega arith

bit_of-lt : (bs : List Bool) (i : ℕ) → bit_of bs i < 2
bit_of-lt bs i = search rules

-- the truths of the byte of truths
low_bits-byte_of : (bs : List Bool) (i : ℕ) → i < 8 → get_or (bits_of (byte_of bs)) i false ≡ get_or bs i false
low_bits-byte_of bs zero lt = grind (arith, common_steps, bit_7, bit_of-lt, truth_again)
low_bits-byte_of bs (suc zero) lt = grind (arith, common_steps, bit_6, bit_of-lt, truth_again)
low_bits-byte_of bs (suc (suc zero)) lt = grind (arith, common_steps, bit_5, bit_of-lt, truth_again)
low_bits-byte_of bs (suc (suc (suc zero))) lt = grind (arith, common_steps, bit_4, bit_of-lt, truth_again)
low_bits-byte_of bs (suc (suc (suc (suc zero)))) lt = grind (arith, common_steps, bit_3, bit_of-lt, truth_again)
low_bits-byte_of bs (suc (suc (suc (suc (suc zero))))) lt = grind (arith, common_steps, bit_2, bit_of-lt, truth_again)
low_bits-byte_of bs (suc (suc (suc (suc (suc (suc zero)))))) lt = grind (arith, common_steps, bit_1, bit_of-lt, truth_again)
low_bits-byte_of bs (suc (suc (suc (suc (suc (suc (suc zero))))))) lt = grind (arith, common_steps, bit_0, bit_of-lt, truth_again)
low_bits-byte_of bs (suc (suc (suc (suc (suc (suc (suc (suc j)))))))) lt = absurd (omega arith)

-- ---- several bytes

pub length-all_bits : (bytes : List ℕ) → length (all_bits bytes) ≡ 8 * length bytes
length-all_bits [] = refl
length-all_bits (byte ∷ bytes) = omega (arith, length-all_bits bytes)

-- packed truths have as many bytes as were asked for
pub length-packed : (n : ℕ) (bs : List Bool) → length (packed n bs) ≡ n
length-packed zero bs = refl
length-packed (suc n) bs = ap suc (length-packed n (drop 8 bs))

pub packed-all_bits : (bytes : List ℕ) → AreBytes bytes → packed (length bytes) (all_bits bytes) ≡ bytes
packed-all_bits [] small = refl
packed-all_bits (byte ∷ bytes) small =
    rw (byte_of-bits_of byte (all_bits bytes) (small 0)) (ap (λ others. byte ∷ others) (packed-all_bits bytes (λ i. small (suc i))))

-- lists of truths with the same truths, false where there is none
abbrev pub SameBits : List Bool → List Bool → Type 0
SameBits xs ys = (i : ℕ) → get_or xs i false ≡ get_or ys i false

packed-same : (n : ℕ) (xs ys : List Bool) → SameBits xs ys → packed n xs ≡ packed n ys
packed-same zero xs ys same = refl
packed-same (suc n) xs ys same =
    let first : byte_of xs ≡ byte_of ys = rw (same 0, same 1, same 2, same 3, same 4, same 5, same 6, same 7) refl in
    let others : packed n (drop 8 xs) ≡ packed n (drop 8 ys) =
    packed-same n (drop 8 xs) (drop 8 ys) (λ i. get_or-drop 8 xs i false ∙ same (8 + i) ∙ sym (get_or-drop 8 ys i false)) in
    rw (first, others) refl

-- a place in the bits of packed truths
packed-place : (n : ℕ) (bs : List Bool) (i : ℕ) → length bs ≤ 8 * n → get_or (all_bits (packed n bs)) i false ≡ get_or bs i false
packed-place zero [] i le = refl
packed-place zero (b ∷ bs) i le = absurd (omega arith)
packed-place (suc n) bs zero le = low_bits-byte_of bs 0 (omega arith)
packed-place (suc n) bs (suc zero) le = low_bits-byte_of bs 1 (omega arith)
packed-place (suc n) bs (suc (suc zero)) le = low_bits-byte_of bs 2 (omega arith)
packed-place (suc n) bs (suc (suc (suc zero))) le = low_bits-byte_of bs 3 (omega arith)
packed-place (suc n) bs (suc (suc (suc (suc zero)))) le = low_bits-byte_of bs 4 (omega arith)
packed-place (suc n) bs (suc (suc (suc (suc (suc zero))))) le = low_bits-byte_of bs 5 (omega arith)
packed-place (suc n) bs (suc (suc (suc (suc (suc (suc zero)))))) le = low_bits-byte_of bs 6 (omega arith)
packed-place (suc n) bs (suc (suc (suc (suc (suc (suc (suc zero))))))) le = low_bits-byte_of bs 7 (omega arith)
packed-place (suc n) bs (suc (suc (suc (suc (suc (suc (suc (suc j)))))))) le =
    let e : 8 + j ≡ (suc (suc (suc (suc (suc (suc (suc (suc j)))))))) = omega arith in
    packed-place n (drop 8 bs) j (omega (arith, length-drop 8 bs)) ∙ get_or-drop 8 bs j false ∙ ap (λ k. get_or bs k false) e

-- truths make a byte
pub byte_of-lt : (bs : List Bool) → byte_of bs < 256
byte_of-lt bs = search rules

packed-AreBytes : (n : ℕ) (bs : List Bool) → AreBytes (packed n bs)
packed-AreBytes zero bs i = omega arith
packed-AreBytes (suc n) bs zero = byte_of-lt bs
packed-AreBytes (suc n) bs (suc i) = packed-AreBytes n (drop 8 bs) i

-- one byte more
pub pack_more : (n k : ℕ) (bs : List Bool) (front total : List ℕ) → k < n → front ++ packed (n - k) (drop (8 * k) bs) ≡ total
    → (front ++ byte_of (drop (8 * k) bs) ∷ []) ++ packed (n - (k + 1)) (drop (8 * (k + 1)) bs) ≡ total
pack_more n k bs front total lt so_far =
    let left : n - k ≡ suc (n - (k + 1)) = omega arith in
    let next : 8 * (k + 1) ≡ 8 * k + 8 = omega arith in
    append_assoc front (byte_of (drop (8 * k) bs) ∷ []) (packed (n - (k + 1)) (drop (8 * (k + 1)) bs))
    ∙ ap (λ rest. front ++ (byte_of (drop (8 * k) bs) ∷ packed (n - (k + 1)) rest))
    (ap (λ i. drop i bs) next ∙ sym (drop-drop 8 (8 * k) bs))
    ∙ ap (λ i. front ++ packed i (drop (8 * k) bs)) (sym left) ∙ so_far

-- ---- no bit set

none_set : (xs : List Bool) → list_any (λ bit. bit) xs ≡ false → (i : ℕ) → get_or xs i false ≡ false
none_set [] e i = refl
none_set (true ∷ xs) e i = absurd cc
none_set (false ∷ xs) e zero = refl
none_set (false ∷ xs) e (suc i) = none_set xs e i

none_from_places : (xs : List Bool) → ((i : ℕ) → get_or xs i false ≡ false) → list_any (λ bit. bit) xs ≡ false
none_from_places [] h = refl
none_from_places (true ∷ xs) h = absurd (no (h 0))
  where
    no : true ≡ false → ⊥
    no e = cc
none_from_places (false ∷ xs) h = none_from_places xs (λ i. h (suc i))

-- with no set padding, the bits are the truths and no more
pub SameBits-take : (count : ℕ) (bytes : List ℕ) → has_set_padding count bytes ≡ false
    → SameBits (take count (all_bits bytes)) (all_bits bytes)
SameBits-take count bytes unused i =
    elim (cases_lt i count) [
      | inl lt ↦ get_or-take count (all_bits bytes) i false lt
      | inr le ↦ get_or_past (take count (all_bits bytes)) i false (omega (arith, length-take count (all_bits bytes))) ∙ sym (past le)
    ]
  where
    past : count ≤ i → get_or (all_bits bytes) i false ≡ false
    past le =
        let e : count + (i - count) ≡ i = omega arith in
        rw (← e) (sym (get_or-drop count (all_bits bytes) (i - count) false) ∙ none_set (drop count (all_bits bytes)) unused (i - count))

-- ---- truths in bytes

-- so many bytes with no set padding hold so many truths
pub length-truths : (count : ℕ) (bytes : List ℕ) → length bytes ≡ byte_count count → length (take count (all_bits bytes)) ≡ count
length-truths count bytes whole = omega (arith, length-take count (all_bits bytes), length-all_bits bytes)

-- and are these truths, packed
pub packed-truths : (count : ℕ) (bytes : List ℕ) → AreBytes bytes → length bytes ≡ byte_count count
    → has_set_padding count bytes ≡ false → packed (byte_count count) (take count (all_bits bytes)) ≡ bytes
packed-truths count bytes small whole unused =
    packed-same (byte_count count) (take count (all_bits bytes)) (all_bits bytes) (SameBits-take count bytes unused)
    ∙ ap (λ n. packed n (all_bits bytes)) (sym whole)
    ∙ packed-all_bits bytes small

-- packed truths are read back
pub truths-packed : (bs : List Bool) → take (length bs) (all_bits (packed (byte_count (length bs)) bs)) ≡ bs
truths-packed bs =
    let n = byte_count (length bs) in
    let room : length bs ≤ 8 * n = omega arith in
    let long : length (all_bits (packed n bs)) ≡ 8 * n = length-all_bits (packed n bs) ∙ ap (λ k. 8 * k) (length-packed n bs) in
    ext_get_or false (take (length bs) (all_bits (packed n bs))) bs (omega (arith, length-take (length bs) (all_bits (packed n bs)), long))
    (λ i lt. get_or-take (length bs) (all_bits (packed n bs)) i false (omega (arith, length-take (length bs) (all_bits (packed n bs))))
    ∙ packed-place n bs i room)

-- and set no padding
pub unused-packed : (bs : List Bool) → has_set_padding (length bs) (packed (byte_count (length bs)) bs) ≡ false
unused-packed bs = grind (arith, common_steps, none_from_places, get_or-drop, packed-place, get_or_past)

pub packed-IsPacked : (bs : List Bool) → length bs ≤ MAX_BLOCK_VALUES → IsPacked (length bs) (packed (byte_count (length bs)) bs)
packed-IsPacked bs few = grind (arith, common_steps, length-packed, unused-packed, packed-AreBytes)

-- ---- one truth

pub get_or-all_bits : (bytes : List ℕ) (i : ℕ) → get_or (all_bits bytes) i false ≡ (bit_at (get_or bytes (i / 8) 0) (7 - i % 8) == 1)
get_or-all_bits [] i = ap (λ bit. bit == 1) (sym (bit_at-zero (7 - i % 8)))
get_or-all_bits (byte ∷ bytes) zero = refl
get_or-all_bits (byte ∷ bytes) (suc zero) = refl
get_or-all_bits (byte ∷ bytes) (suc (suc zero)) = refl
get_or-all_bits (byte ∷ bytes) (suc (suc (suc zero))) = refl
get_or-all_bits (byte ∷ bytes) (suc (suc (suc (suc zero)))) = refl
get_or-all_bits (byte ∷ bytes) (suc (suc (suc (suc (suc zero))))) = refl
get_or-all_bits (byte ∷ bytes) (suc (suc (suc (suc (suc (suc zero)))))) = refl
get_or-all_bits (byte ∷ bytes) (suc (suc (suc (suc (suc (suc (suc zero))))))) = refl
get_or-all_bits (byte ∷ bytes) (suc (suc (suc (suc (suc (suc (suc (suc j)))))))) =
    get_or-all_bits bytes j
    ∙ sym (by ((suc (suc (suc (suc (suc (suc (suc (suc j)))))))) / 8) ((suc (suc (suc (suc (suc (suc (suc (suc j)))))))) % 8)
    (omega arith) (omega arith))
  where
    by : (at place : ℕ) → at ≡ suc (j / 8) → place ≡ j % 8
        → (bit_at (get_or (byte ∷ bytes) at 0) (7 - place) == 1) ≡ (bit_at (get_or bytes (j / 8) 0) (7 - j % 8) == 1)
    by at place e f = rw (e, f) refl

-- the truth at a place, from the byte that holds it
pub truth_at : (count : ℕ) (bytes : List ℕ) (i byte : ℕ) → length bytes ≡ byte_count count → i < count
    → byte ≡ get_or bytes (i / 8) byte
    → slice_get (take count (all_bits bytes)) i ≡ Some (bit_and (byte / 2 ^ (7 - i % 8)) 1 == 1)
truth_at count bytes i byte whole lt is =
    let read : byte ≡ get_or bytes (i / 8) 0 = get_or_read bytes (i / 8) byte (omega arith) is 0 in
    slice_get-get_or (take count (all_bits bytes)) i false (omega (arith, length-truths count bytes whole))
    ∙ ap (λ b. Some b) (get_or-take count (all_bits bytes) i false lt
    ∙ get_or-all_bits bytes i
    ∙ ap (λ b. bit_at b (7 - i % 8) == 1) (sym read)
    ∙ ap (λ b. b == 1) (sym (shr_and_one byte (7 - i % 8))))

-- ---- the padding of the last byte

-- some of the lowest bits is set just where the byte is no multiple of their weight
low_bits-any : (k byte : ℕ) → list_any (λ bit. bit) (low_bits k byte) ≡ not (byte % 2 ^ k == 0)
low_bits-any zero byte = search rules
low_bits-any (suc k) byte =
    let more : 1 + k ≡ suc k = omega arith in
    by (bit_at byte k) (bit_at-lt byte k) (rw more at (mod-pow-add byte 1 k)) (low_bits-any k byte)
  where
    by : (bit : ℕ) → bit < 2 → byte % 2 ^ suc k ≡ bit * 2 ^ k + byte % 2 ^ k
        → list_any (λ b. b) (low_bits k byte) ≡ not (byte % 2 ^ k == 0)
        → ((bit == 1) || list_any (λ b. b) (low_bits k byte)) ≡ not (byte % 2 ^ suc k == 0)
    by zero lt e ih =
        let same : byte % 2 ^ k ≡ byte % 2 ^ suc k = omega (arith, e) in
        ih ∙ ap (λ n. not (n == 0)) same
    by (suc zero) lt e ih = ap not (sym (ne_eqb (byte % 2 ^ suc k) 0 (omega (arith, e, pow_pos k))))
    by (suc (suc b)) lt e ih = absurd (omega arith)

pub drop-all_bits : (q r : ℕ) (bytes : List ℕ) → drop (8 * q + r) (all_bits bytes) ≡ drop r (all_bits (drop q bytes))
drop-all_bits zero r bytes = search rules
drop-all_bits (suc q) r [] = drop_all (8 * suc q + r) [] (omega arith) ∙ sym (drop_all r [] (omega arith))
drop-all_bits (suc q) r (byte ∷ bytes) =
    let e : 8 * suc q + r ≡ (suc (suc (suc (suc (suc (suc (suc (suc (8 * q + r))))))))) = omega arith in
    ap (λ n. drop n (all_bits (byte ∷ bytes))) e ∙ drop-all_bits q r bytes

-- the last byte holds the padding
pub padding_of_last : (q r byte : ℕ) (bytes : List ℕ) → r < 8 → length bytes ≡ q + 1 → byte ≡ get_or bytes q byte
    → has_set_padding (8 * q + r) bytes ≡ not (byte % 2 ^ (8 - r) == 0)
padding_of_last q r byte bytes lt long is =
    let last : drop q bytes ≡ byte ∷ [] = drop_more bytes q byte (omega arith) ∙ rw (sym is, drop_all (q + 1) bytes (omega arith)) refl in
    ap (list_any (λ bit. bit)) (drop-all_bits q r bytes ∙ ap (λ rest. drop r (all_bits rest)) last) ∙ dropped r lt
  where
    dropped : (r : ℕ) → r < 8 → list_any (λ bit. bit) (drop r (bits_of byte ++ [])) ≡ not (byte % 2 ^ (8 - r) == 0)
    dropped zero lt = low_bits-any 8 byte
    dropped (suc zero) lt = low_bits-any 7 byte
    dropped (suc (suc zero)) lt = low_bits-any 6 byte
    dropped (suc (suc (suc zero))) lt = low_bits-any 5 byte
    dropped (suc (suc (suc (suc zero)))) lt = low_bits-any 4 byte
    dropped (suc (suc (suc (suc (suc zero))))) lt = low_bits-any 3 byte
    dropped (suc (suc (suc (suc (suc (suc zero)))))) lt = low_bits-any 2 byte
    dropped (suc (suc (suc (suc (suc (suc (suc zero))))))) lt = low_bits-any 1 byte
    dropped (suc (suc (suc (suc (suc (suc (suc (suc j)))))))) lt = absurd (omega arith)
