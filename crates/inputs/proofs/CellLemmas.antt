-- What the bytes of a cell say.
use Rattle.std.proofs.Common.{◌≡◌, ◌<◌, ◌≤◌, ◌^◌, ◌-◌, ℕ, ℤ, pos, neg_ℤ, Bool, true, false, ◌&&◌, ◌==◌, List, [], ◌∷◌, length, take, drop, get_or, Option, Some, None, Result, Ok, Err, refl, sym, ap, ◌∙◌, arith, inl, inr, nat_lt, nat_le, w64, to_z, of_z, ◌-ℤ◌, zero, suc, lit<}
use Rattle.std.proofs.lemmas.Bool.{cases_Bool, cases_eq, eq-eqb, ne_eqb}
use Rattle.std.proofs.lemmas.Bool.Decides.{nat_tests}
use Rattle.std.proofs.Math.IntN.{+ℤ_idl}
use Rattle.std.proofs.lemmas.Int.{to_z-of_z}
use Rattle.std.proofs.lemmas.List.{length-take}
use Rattle.std.proofs.lemmas.Str.{IsAscii-drop, IsAscii-take, IsUtf8-from_is_utf8, is_utf8-from_IsUtf8, IsUtf8-from_ascii}
use Rattle.std.proofs.lemmas.Str.Parse.{IsNumeralModel, digits_value_short, numerals_by_value, tells_all_ascii_digits, parse_signed_minus, parse_signed_plain, parse_signed_plus}
use Rattle.std.specs.List.{list_all}
use Rattle.std.specs.Option.{IfSome}
use Rattle.std.specs.Result.{OkIff, MatchResult, result_ok}
use Rattle.std.specs.Str.{IsAscii, IsUtf8, is_utf8, all_ascii_digits}
use Rattle.std.specs.Str.Parse.{AllDigits, ParsesSigned, digits_value, starts_with_minus, without_leading_sign}
use Rattle.std.specs.Char.{is_ascii_digit}
use Rattle.csv.specs.Records.{cut_from}
use Rattle.values.specs.declared.value.ColumnType.TheVariants as column
use Rattle.values.specs.declared.value.Value.TheVariants.{Text}
use Rattle.inputs.specs.Cells.{is_numeral, signed_number, int_of, value_of}
use Rattle.inputs.specs.Input.{cell_of}
use Rattle.inputs.specs.declared.fault.TableFault.TheVariants.{TextTooLong, BadText}
use Rattle.blocks.proofs.CallerLemmas.{both_held}

-- ---- texts

-- bytes that aren't UTF-8 fail the test for it
pub not_utf8 : (bs : List ℕ) → ¬ (IsUtf8 bs) → is_utf8 bs ≡ false
not_utf8 bs h = elim (cases_Bool (is_utf8 bs)) [
  | inl e ↦ absurd (h (IsUtf8-from_is_utf8 bs e))
  | inr e ↦ e
]

-- the fields of a record whose bytes are all ASCII
pub list_all-ascii : (start : ℕ) (ends bytes : List ℕ) → IsAscii bytes → list_all is_utf8 (cut_from start ends bytes) ≡ true
unfolding cut_from
list_all-ascii start [] bytes h = refl
list_all-ascii start (end ∷ ends) bytes h =
    let field = IsAscii-take (drop start bytes) (end - start) (IsAscii-drop bytes start h) in
    rw (is_utf8-from_IsUtf8 _ (IsUtf8-from_ascii _ field), list_all-ascii end ends bytes h) refl

pub lt_false : (a b : ℕ) → b ≤ a → nat_lt a b ≡ false
lt_false a b h = grind (arith, nat_tests)

pub lt_true : (a b : ℕ) → a < b → nat_lt a b ≡ true
lt_true a b h = grind (arith, nat_tests)

pub text-ok : (bs : List ℕ) (n at : ℕ) → IsUtf8 bs → length bs ≤ 4096 → cell_of column.Text n at bs ≡ Ok (Text bs)
text-ok bs n at u h = rw (is_utf8-from_IsUtf8 bs u, lt_false 4096 (length bs) h) refl

pub text-long : (bs : List ℕ) (n at : ℕ) → IsUtf8 bs → 4096 < length bs → cell_of column.Text n at bs ≡ Err (TextTooLong n at)
text-long bs n at u h = rw (is_utf8-from_IsUtf8 bs u, lt_true 4096 (length bs) h) refl

pub text-bad : (bs : List ℕ) (n at : ℕ) → ¬ (IsUtf8 bs) → cell_of column.Text n at bs ≡ Err (BadText n at)
text-bad bs n at u = rw (not_utf8 bs u) refl

pub value_of-no_text : (bs : List ℕ) → ¬ (IsUtf8 bs) → value_of column.Text bs ≡ None
value_of-no_text bs u = rw (not_utf8 bs u) refl

pub value_of-text : (bs : List ℕ) → IsUtf8 bs → value_of column.Text bs ≡ Some (Text bs)
value_of-text bs u = rw (is_utf8-from_IsUtf8 bs u) refl

-- ---- numbers

pub numerals : IsNumeralModel (λ ds. all_ascii_digits ds ≡ true) (digits_value 10)
numerals = numerals_by_value _ tells_all_ascii_digits

-- one digit or more
pub is_numeral-true : (ds : List ℕ) → all_ascii_digits ds ≡ true → 0 < length ds → is_numeral ds ≡ true
is_numeral-true [] e h = absurd (omega arith)
is_numeral-true (c ∷ ds) e h = e

pub numeral-digits : (ds : List ℕ) → is_numeral ds ≡ true → (all_ascii_digits ds ≡ true) × (0 < length ds)
numeral-digits [] e = cc e
numeral-digits (c ∷ ds) e = (e, omega arith)

pub and-false : (a b : Bool) → (a ≡ true → b ≡ true → ⊥) → (a && b) ≡ false
and-false true true h = absurd (h refl refl)
and-false true false h = refl
and-false false b h = refl

pub le_true : (a b : ℕ) → a ≤ b → nat_le a b ≡ true
le_true a b h = grind (arith, nat_tests)

pub le_false : (a b : ℕ) → b < a → nat_le a b ≡ false
le_false a b h = grind (arith, nat_tests)

le_from : (a b : ℕ) → nat_le a b ≡ true → a ≤ b
le_from a b h = grind (arith, nat_tests)

pub lt_from : (a b : ℕ) → nat_lt a b ≡ true → a < b
lt_from a b h = grind (arith, nat_tests)

module _ {E : Type 0} where
  minus-says : (ds : List ℕ) (r : Result ℤ E)
      → OkIff r ((all_ascii_digits ds ≡ true) × (0 < length ds) × (digits_value 10 ds ≤ 2 ^ 63)) (neg_ℤ (pos (digits_value 10 ds)))
      → MatchResult r (λ n. signed_number true ds ≡ Some n) (λ _. signed_number true ds ≡ None)
  minus-says ds (Ok n) h = rw (is_numeral-true ds h.0.0 h.0.1, le_true _ _ h.0.2) (ap Some (sym h.1))
  minus-says ds (Err e) h =
      let no : (is_numeral ds && nat_le (digits_value 10 ds) (2 ^ 63)) ≡ false =
      and-false _ _ (λ a b. let d = numeral-digits ds a in h (d.0, d.1, le_from _ _ b)) in
      rw no refl

  plain-says : (ds : List ℕ) (r : Result ℤ E)
      → OkIff r ((all_ascii_digits ds ≡ true) × (0 < length ds) × (digits_value 10 ds < 2 ^ 63)) (pos (digits_value 10 ds))
      → MatchResult r (λ n. signed_number false ds ≡ Some n) (λ _. signed_number false ds ≡ None)
  plain-says ds (Ok n) h = rw (is_numeral-true ds h.0.0 h.0.1, lt_true _ _ h.0.2) (ap Some (sym h.1))
  plain-says ds (Err e) h =
      let no : (is_numeral ds && nat_lt (digits_value 10 ds) (2 ^ 63)) ≡ false =
      and-false _ _ (λ a b. let d = numeral-digits ds a in h (d.0, d.1, lt_from _ _ b)) in
      rw no refl

  carried : (o p : Option ℤ) (r : Result ℤ E) → o ≡ p → MatchResult r (λ n. p ≡ Some n) (λ _. p ≡ None)
      → MatchResult r (λ n. o ≡ Some n) (λ _. o ≡ None)
  carried o p r e h = rw e h

  -- what a parse of 64 bits answers
  pub int_of-parse : (bs : List ℕ) (r : Result ℤ E) → ParsesSigned w64 10 bs r
      → MatchResult r (λ n. int_of bs ≡ Some n) (λ _. int_of bs ≡ None)
  int_of-parse bs r h = elim (cases_eq (get_or bs 0 0) 45) [
    | inl e ↦ carried (int_of bs) (signed_number true (drop 1 bs)) r (rw (eq-eqb _ _ e) refl)
        (minus-says (drop 1 bs) r (parse_signed_minus numerals w64 bs r h e))
    | inr n ↦ elim (cases_eq (get_or bs 0 0) 43) [
      | inl e ↦ carried (int_of bs) (signed_number false (drop 1 bs)) r (rw (ne_eqb _ _ n, eq-eqb _ _ e) refl)
          (plain-says (drop 1 bs) r (parse_signed_plus numerals w64 bs r h e))
      | inr m ↦ carried (int_of bs) (signed_number false bs) r (rw (ne_eqb _ _ n, ne_eqb _ _ m) refl)
          (plain-says bs r (parse_signed_plain numerals w64 bs r h m n))
    ]
  ]

  -- the number of a parse that succeeded
  pub int_of-result_ok : (bs : List ℕ) (r : Result ℤ E) → ParsesSigned w64 10 bs r → int_of bs ≡ result_ok r
  int_of-result_ok bs (Ok n) h = int_of-parse bs (Ok n) h
  int_of-result_ok bs (Err e) h = int_of-parse bs (Err e) h

-- ---- what is a number is a text

digit-ascii : (c : ℕ) → is_ascii_digit c ≡ true → c < 128
digit-ascii c h = grind (arith, nat_tests)

pub digits-ascii : (ds : List ℕ) → all_ascii_digits ds ≡ true → (i : ℕ) → get_or ds i 0 < 128
digits-ascii [] h i = lit< tt
digits-ascii (c ∷ ds) h zero = digit-ascii c (both_held (is_ascii_digit c) (all_ascii_digits ds) h).0
digits-ascii (c ∷ ds) h (suc i) = digits-ascii ds (both_held (is_ascii_digit c) (all_ascii_digits ds) h).1 i

cons-ascii : (c : ℕ) (rest : List ℕ) → c < 128 → ((i : ℕ) → get_or rest i 0 < 128) → (i : ℕ) → get_or (c ∷ rest) i 0 < 128
cons-ascii c rest h more zero = h
cons-ascii c rest h more (suc i) = more i

sign-ascii : (bs : List ℕ) → all_ascii_digits (without_leading_sign bs) ≡ true → (i : ℕ) → get_or bs i 0 < 128
sign-ascii [] h = λ i. lit< tt
sign-ascii (c ∷ rest) h = elim (cases_eq c 45) [
  | inl e ↦ cons-ascii c rest (omega (arith, e)) (digits-ascii rest (rw (eq-eqb c 45 e) at h))
  | inr n ↦ elim (cases_eq c 43) [
    | inl e ↦ cons-ascii c rest (omega (arith, e)) (digits-ascii rest (rw (ne_eqb c 45 n, eq-eqb c 43 e) at h))
    | inr m ↦ digits-ascii (c ∷ rest) (rw (ne_eqb c 45 n, ne_eqb c 43 m) at h)
  ]
]

signed-none : (minus : Bool) (ds : List ℕ) → (is_numeral ds ≡ true → ⊥) → signed_number minus ds ≡ None
signed-none true ds h = let no : (is_numeral ds && nat_le (digits_value 10 ds) (2 ^ 63)) ≡ false = and-false _ _ (λ a b. h a) in rw no refl
signed-none false ds h = let no : (is_numeral ds && nat_lt (digits_value 10 ds) (2 ^ 63)) ≡ false = and-false _ _ (λ a b. h a) in rw no refl

pub int_of-no_text : (bs : List ℕ) → ¬ (IsUtf8 bs) → int_of bs ≡ None
int_of-no_text bs h =
    signed-none (starts_with_minus bs) (without_leading_sign bs)
    (λ e. h (IsUtf8-from_ascii bs (sign-ascii bs (numeral-digits (without_leading_sign bs) e).0)))

-- ---- a number of few digits

-- digits of any value but the last few fit
pub number-step : (bs : List ℕ) (i : ℕ) → i < length bs → length bs ≤ 18 → AllDigits 10 (take i bs) → digits_value 10 (take i bs) < 10 ^ 17
number-step bs i lt few all =
    let short : length (take i bs) ≤ 17 = omega (arith, lt, few, length-take i bs) in
    digits_value_short numerals (take i bs) 17 (numerals.from (take i bs) all) short

pub number-small : (bs : List ℕ) → length bs ≤ 18 → AllDigits 10 bs → digits_value 10 bs < 2 ^ 63
number-small bs few all =
    let low : digits_value 10 bs < 10 ^ 18 = digits_value_short numerals bs 18 (numerals.from bs all) few in
    omega (arith, low)

pub numeral-true : (bs : List ℕ) → 0 < length bs → AllDigits 10 bs → is_numeral bs ≡ true
numeral-true bs some all = is_numeral-true bs (numerals.from bs all) some

pub some-from : (n : ℕ) → (n == 0) ≡ false → 0 < n
some-from zero h = cc h
some-from (suc n) h = omega arith

-- no sign is a digit
first-digit : (bs : List ℕ) → is_numeral bs ≡ true → (get_or bs 0 0 ≡ 43 → ⊥) × (get_or bs 0 0 ≡ 45 → ⊥)
first-digit [] h = cc h
first-digit (c ∷ ds) h =
    let digit = (both_held (is_ascii_digit c) (all_ascii_digits ds) h).0 in
    (λ e. cc (rw e at digit), λ e. cc (rw e at digit))

pub int_of-plain : (bs : List ℕ) → is_numeral bs ≡ true → digits_value 10 bs < 2 ^ 63 → int_of bs ≡ Some (pos (digits_value 10 bs))
int_of-plain bs h small =
    let signs = first-digit bs h in
    rw (ne_eqb _ _ signs.1, ne_eqb _ _ signs.0, h, lt_true _ _ small) refl

pub plain-some : (bs : List ℕ) (r : Option ℤ) → IfSome r (λ n. is_numeral bs ≡ true)
    → IfSome r (λ n. n ≡ pos (digits_value 10 bs)) → IfSome r (λ n. digits_value 10 bs < 2 ^ 63)
    → IfSome r (λ n. int_of bs ≡ Some n)
plain-some bs None digits value small = tt
plain-some bs (Some n) digits value small = int_of-plain bs digits small ∙ ap Some (sym value)

-- a sign that stands first, and digits after it
pub int_of-minus : (bs : List ℕ) → (get_or bs 0 0 == 45) ≡ true → is_numeral (drop 1 bs) ≡ true
    → digits_value 10 (drop 1 bs) < 2 ^ 63 → int_of bs ≡ Some (neg_ℤ (pos (digits_value 10 (drop 1 bs))))
int_of-minus bs e h small = rw (e, h, le_true (digits_value 10 (drop 1 bs)) (2 ^ 63) (omega (arith, small))) refl

negated : (v : ℕ) → v < 2 ^ 63 → to_z w64 (of_z w64 (neg_ℤ (pos v))) ≡ neg_ℤ (pos v)
negated zero small = to_z-of_z w64 (pos 0) (omega arith)
negated (suc k) small = to_z-of_z w64 (neg_ℤ (pos (suc k))) (omega (arith, small))

pub value-negated : (v : ℕ) (z : ℤ) → z ≡ pos v → v < 2 ^ 63 → to_z w64 (of_z w64 (pos 0 -ℤ to_z w64 (of_z w64 z))) ≡ neg_ℤ (pos v)
value-negated v z e small =
    ap (λ x. to_z w64 (of_z w64 (pos 0 -ℤ to_z w64 (of_z w64 x)))) e
    ∙ ap (λ x. to_z w64 (of_z w64 (pos 0 -ℤ x))) (to_z-of_z w64 (pos v) (omega (arith, small)))
    ∙ ap (λ x. to_z w64 (of_z w64 x)) (+ℤ_idl (neg_ℤ (pos v)))
    ∙ negated v small
