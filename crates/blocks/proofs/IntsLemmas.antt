-- Numbers read from their payload, and the payload of numbers that were read.
use Rattle.std.proofs.Common.{◌≡◌, ℕ, ℤ, pos, negsuc, zero, suc, ◌+◌, ◌*◌, ◌/◌, ◌^◌, ◌<◌, ◌≤◌, Bool, true, false, cond, ltb, List, [], ◌∷◌, ◌++◌, length, take, drop, map, Result, Ok, Err, refl, sym, ap, subst, ◌∙◌, arith, FitsSigned, inl, inr, rules}
use Rattle.std.specs.List.{flat_map}
use Rattle.std.specs.Int.{w64, from_be_bytes, to_be_bytes, cast_signed, cast_unsigned}
use Rattle.std.specs.Simd.{first_chunks}
use Rattle.std.proofs.lemmas.Bool.{cases_lt, ltb-false, le-ltb, lt-ltb}
use Rattle.std.proofs.lemmas.Int.{to_z-of_z, of_z-to_z}
use Rattle.std.proofs.lemmas.List.{length-take, length-drop, take-append-drop, get_or-drop}
use Rattle.std.proofs.lemmas.Nat.{be_bytes_8, from_be_bytes-to_be_bytes_8}
use Rattle.values.specs.declared.value.ColumnType.TheVariants as column
use Rattle.values.specs.declared.value.Value.{Value}
use Rattle.values.specs.declared.value.Value.TheVariants.{Int, Text, Bool as Truth}
use Rattle.blocks.specs.declared.fault.BlockFault.{BlockFault}
use Rattle.blocks.specs.declared.fault.BlockFault.TheVariants.{Short, Long}
use Rattle.blocks.specs.Column.{Fits, AllFit}
use Rattle.blocks.specs.Payload.{AreBytes, spelling}
use Rattle.blocks.specs.Reading.{◌>>=◌, and_then, number_of, int_of, ints_at}
use Rattle.std.proofs.lemmas.Grind.{common_steps}

-- what is left of bytes is bytes
pub AreBytes-drop : (n : ℕ) (bytes : List ℕ) → AreBytes bytes → AreBytes (drop n bytes)
AreBytes-drop n bytes small i = rw get_or-drop (small (n + i))

-- so are the first of them
pub AreBytes-take : (n : ℕ) (bytes : List ℕ) → AreBytes bytes → AreBytes (take n bytes)
AreBytes-take n bytes small i = grind (arith, common_steps)

-- ---- what a step answered

-- the value of a step that did not fail
pub bind_ok : {A B : Type 0} (r : Result A BlockFault) (next : A → Result B BlockFault) (y : B) → (r >>= next) ≡ Ok y
    → (x : A) × (r ≡ Ok x) × (next x ≡ Ok y)
bind_ok (Ok x) next y e = (x, refl, e)
bind_ok (Err fault) next y e = absurd cc

-- a test that did not fail
pub guard_ok : {A : Type 0} (b : Bool) (fault : BlockFault) (x : Result A BlockFault) (y : A) → cond b (Err fault) x ≡ Ok y
    → (b ≡ false) × (x ≡ Ok y)
guard_ok true fault x y e = absurd cc
guard_ok false fault x y e = (refl, e)

abbrev pub done : {A : Type 0} → A → Result A BlockFault
done x = Ok x

pub ok_is : {A : Type 0} (x y : A) → done x ≡ done y → x ≡ y
ok_is x y e = cc

-- ---- one number

-- eight bytes are the spelling of the number that they spell
int_spelt : (bytes : List ℕ) → length bytes ≡ 8 → AreBytes bytes → spelling (int_of bytes) ≡ bytes
int_spelt bytes eight small =
    let n = from_be_bytes w64 bytes in
    let lt : n < 2 ^ 64 = omega (arith, small 0, small 1, small 2, small 3, small 4, small 5, small 6, small 7) in
    ap (to_be_bytes w64) (of_z-to_z w64 n lt) ∙ be_bytes_8 bytes n eight small refl

-- and that number is of 64 bits
int_fits : (bytes : List ℕ) → AreBytes bytes → Fits column.Int (int_of bytes)
int_fits bytes small = search rules

unsigned_lt : (x : ℤ) → FitsSigned w64 x → cast_unsigned w64 x < 2 ^ 64
unsigned_lt (pos n) fits = omega (arith, fits.sfits)
unsigned_lt (negsuc n) fits = omega (arith, fits.sfits)

-- the spelling of a number spells it
int_again : (x : ℤ) → FitsSigned w64 x → int_of (spelling (Int x)) ≡ Int x
int_again x fits =
    ap Int (ap (cast_signed w64) (from_be_bytes-to_be_bytes_8 (cast_unsigned w64 x) (unsigned_lt x fits)) ∙ to_z-of_z w64 x fits)

-- ---- numbers

-- what was read is numbers, and bytes are their spelling
pub ints_take : (at count : ℕ) (bytes : List ℕ) (values : List Value) → AreBytes bytes → ints_at at count bytes ≡ Ok values
    → (length values ≡ count) × AllFit column.Int values × (bytes ≡ flat_map spelling values)
unfolding ints_at
ints_take at zero bytes values small e = search rules
ints_take at (suc count) bytes values small e =
    let g =
    guard_ok (ltb (length bytes) 8) (Short at) (and_then (int_of (take 8 bytes)) (ints_at (at + 8) count (drop 8 bytes)))
    values e in
    let long : 8 ≤ length bytes = ltb-false _ _ g.0 in
    let b = bind_ok (ints_at (at + 8) count (drop 8 bytes)) (λ others. Ok (int_of (take 8 bytes) ∷ others)) values g.1 in
    let others = ints_take (at + 8) count (drop 8 bytes) b.0 (AreBytes-drop 8 bytes small) b.1 in
    let first = int_spelt (take 8 bytes) (omega (arith, length-take 8 bytes)) (AreBytes-take 8 bytes small) in
    let whole : bytes ≡ flat_map spelling (int_of (take 8 bytes) ∷ b.0) =
    sym (take-append-drop 8 bytes)
    ∙ ap (λ front. front ++ drop 8 bytes) (sym first)
    ∙ ap (λ rest. spelling (int_of (take 8 bytes)) ++ rest) others.2 in
    subst (λ vs. (length vs ≡ suc count) × AllFit column.Int vs × (bytes ≡ flat_map spelling vs))
    (ok_is (int_of (take 8 bytes) ∷ b.0) values b.2)
    (ap suc others.0, (int_fits (take 8 bytes) (AreBytes-take 8 bytes small), others.1), whole)

-- eight bytes are a number, and the rest the others
ints_step : (at count : ℕ) (word rest : List ℕ) → length word ≡ 8
    → ints_at at (suc count) (word ++ rest) ≡ and_then (int_of word) (ints_at (at + 8) count rest)
unfolding ints_at
ints_step at count word rest eight = grind (arith, common_steps)

-- no bytes are no numbers
ints_none : (at : ℕ) → ints_at at 0 [] ≡ Ok []
unfolding ints_at
ints_none at = refl

-- the spelling of numbers is read as these numbers
pub ints_again : (at : ℕ) (values : List Value) → AllFit column.Int values
    → ints_at at (length values) (flat_map spelling values) ≡ Ok values
ints_again at [] fit = ints_none at
ints_again at (Int x ∷ values) fit =
    ints_step at (length values) (spelling (Int x)) (flat_map spelling values) refl
    ∙ ap (and_then (int_of (spelling (Int x)))) (ints_again (at + 8) values fit.1) ∙ ap (λ first. done (first ∷ values)) (int_again x fit.0)
ints_again at (Text t ∷ values) fit = absurd fit.0
ints_again at (Truth b ∷ values) fit = absurd fit.0

-- ---- the test of the length, once for all

-- as many whole words as there are, and fewer than the numbers: the first fault is at their end
pub ints_short : (at count : ℕ) (bytes : List ℕ) → length bytes / 8 < count
    → ints_at at count bytes ≡ Err (Short (at + 8 * (length bytes / 8)))
unfolding ints_at
ints_short at zero bytes lt = absurd (omega arith)
ints_short at (suc count) bytes lt =
    elim (cases_lt (length bytes) 8) [
      | inl few ↦
          let here : at ≡ at + 8 * (length bytes / 8) = omega arith in
          rw (lt-ltb _ _ few) (ap (λ n. Err (Short n)) here)
      | inr long ↦
          let one : length (drop 8 bytes) / 8 + 1 ≡ length bytes / 8 = omega (arith, length-drop 8 bytes) in
          let place : at + 8 + 8 * (length (drop 8 bytes) / 8) ≡ at + 8 * (length bytes / 8) = omega (arith, one) in
          rw (le-ltb _ _ long, ints_short (at + 8) count (drop 8 bytes) (omega (arith, one))) (ap (λ n. Err (Short n)) place)
    ]

-- more bytes than the numbers take
pub ints_long : (at count : ℕ) (bytes : List ℕ) → 8 * count < length bytes → ints_at at count bytes ≡ Err (Long (at + 8 * count))
unfolding ints_at
ints_long at zero [] lt = absurd (omega arith)
ints_long at zero (byte ∷ bytes) lt = search rules
ints_long at (suc count) bytes lt =
    let long : 8 ≤ length bytes = omega arith in
    let place : at + 8 + 8 * count ≡ at + 8 * suc count = omega arith in
    rw (le-ltb _ _ long, ints_long (at + 8) count (drop 8 bytes) (omega (arith, length-drop 8 bytes))) (ap (λ n. Err (Long n)) place)

-- numbers as values
pub map-int_of : (words : List (List ℕ)) → map Int (map number_of words) ≡ map int_of words
map-int_of [] = refl
map-int_of (word ∷ words) = ap (λ others. int_of word ∷ others) (map-int_of words)

-- as many bytes as the numbers take
pub ints_exact : (at count : ℕ) (bytes : List ℕ) → length bytes ≡ 8 * count
    → ints_at at count bytes ≡ Ok (map int_of (first_chunks 8 count bytes))
unfolding ints_at
ints_exact at zero [] whole = refl
ints_exact at zero (byte ∷ bytes) whole = absurd (omega arith)
ints_exact at (suc count) bytes whole =
    let long : 8 ≤ length bytes = omega arith in
    rw (le-ltb _ _ long, ints_exact (at + 8) count (drop 8 bytes) (omega (arith, length-drop 8 bytes))) refl
