-- Numbers and names, read and spelt.
use Rattle.std.proofs.Common.{◌≡◌, ◌≢◌, ◌<◌, ◌≤◌, ℕ, zero, suc, ◌+◌, ◌-◌, ◌*◌, ◌/◌, ◌%◌, ◌^◌, Bool, true, false, cond, ltb, leb, eqb, ◌&&◌, Option, Some, None, List, [], ◌∷◌, ◌++◌, length, get_or, take, drop, length-append, refl, sym, ap, subst, ◌∙◌, append_assoc, arith, inl, inr}
use Rattle.std.specs.Char.{digit_value, is_ascii_digit}
use Rattle.std.specs.Fmt.{decimal}
use Rattle.std.specs.Int.{is_in_range}
use Rattle.std.specs.List.{AllByRecursion}
use Rattle.std.specs.Option.{option_map}
use Rattle.std.specs.Str.Parse.{AllDigits, digits_value, digits_value_after}
use Rattle.std.proofs.lemmas.Bool.{cases_eq, cases_lt, eq-eqb, eqb-true, eqb-false, le-leb, leb-true, lt-leb, lt-ltb, le-ltb, ne_eqb}
use Rattle.std.proofs.lemmas.List.{take_at, drop_at, length-drop, nil_from_length}
use Rattle.std.proofs.lemmas.Option.{cond_some}
use Rattle.std.proofs.Math.Seq.{drop-cons}
use Rattle.std.proofs.lemmas.Fmt.{decimal-digits_value, decimal_is_IsNumeral, first_decimal, decimal_digit}
use Rattle.std.proofs.lemmas.Str.{digit_value_digit}
use Rattle.std.proofs.lemmas.Str.Parse.{IsNumeralModel, numerals_by_value, tells_digits}
use Rattle.manifest.specs.Manifest.{IsName, digit_text, flag_text, halves_text, long_text, number_text, word_text}
use Rattle.manifest.specs.Reading.{◌>>=◌, after_word, byte_at, digit_at, digits_at, flag_at, line_end, long_at, name_at, name_before, number_at, number_from, short_at, word_at}
use Rattle.manifest.proofs.ReaderLemmas.{IsReader, after_again, after_takes, bind_some, chosen, halves_reads, said_reads, some_is}

-- ---- hexadecimal digits

range_true : (low high b : ℕ) → is_in_range low high b ≡ true → (low ≤ b) × (b ≤ high)
range_true low high b e = grind arith

in_range : (low high b : ℕ) → low ≤ b → b ≤ high → is_in_range low high b ≡ true
in_range low high b l h = grind arith

low_text : (b x : ℕ) → b ≡ 48 + x → x < 10 → digit_text x ≡ b ∷ []
low_text b x is lt = ap (λ c. cond c ((48 + x) ∷ []) ((87 + x) ∷ [])) (lt-ltb x 10 lt) ∙ ap (λ (n : ℕ). n ∷ []) (sym is)

high_text : (b x : ℕ) → b ≡ 87 + x → 10 ≤ x → digit_text x ≡ b ∷ []
high_text b x is le = ap (λ c. cond c ((48 + x) ∷ []) ((87 + x) ∷ [])) (le-ltb x 10 le) ∙ ap (λ (n : ℕ). n ∷ []) (sym is)

digit_takes : (bytes : List ℕ) (x : ℕ) (rest : List ℕ) → digit_at bytes ≡ Some (x, rest) → (bytes ≡ digit_text x ++ rest) × (x < 16)
unfolding digit_at
digit_takes [] x rest e = absurd cc
digit_takes (b ∷ bytes) x rest e =
    elim (chosen (is_in_range 48 57 b) (Some (b - 48, bytes)) (cond (is_in_range 97 102 b) (Some (b - 87, bytes)) None) (Some (x, rest)) e) [
      | inl h ↦
          let r = range_true 48 57 b h.0 in
          subst (λ (q : ℕ × List ℕ). ((b ∷ bytes) ≡ digit_text q.0 ++ q.1) × (q.0 < 16)) (some_is (b - 48, bytes) (x, rest) h.1)
          (ap (λ (t : List ℕ). t ++ bytes) (sym (low_text b (b - 48) (omega (arith, r.0)) (omega (arith, r.1)))), omega (arith, r.1))
      | inr h ↦
          let c = cond_some (is_in_range 97 102 b) (b - 87, bytes) (x, rest) h.1 in
          let r = range_true 97 102 b c.0 in
          subst (λ (q : ℕ × List ℕ). ((b ∷ bytes) ≡ digit_text q.0 ++ q.1) × (q.0 < 16)) c.1
          (ap (λ (t : List ℕ). t ++ bytes) (sym (high_text b (b - 87) (omega (arith, r.0)) (omega (arith, r.0)))), omega (arith, r.1))
    ]

digit_low : (b x : ℕ) (rest : List ℕ) → b ≡ 48 + x → x < 10 → digit_at (b ∷ rest) ≡ Some (x, rest)
unfolding digit_at
digit_low b x rest is lt =
    rw (in_range 48 57 b (omega (arith, is)) (omega (arith, is, lt))) (ap (λ (n : ℕ). read (n, rest)) (omega (arith, is)))
  where
    read : ℕ × List ℕ → Option (ℕ × List ℕ)
    read p = Some p

digit_high : (b x : ℕ) (rest : List ℕ) → b ≡ 87 + x → 10 ≤ x → x < 16 → digit_at (b ∷ rest) ≡ Some (x, rest)
unfolding digit_at
digit_high b x rest is le lt =
    rw (out b (omega (arith, is, le)), in_range 97 102 b (omega (arith, is, le)) (omega (arith, is, lt)))
    (ap (λ (n : ℕ). read (n, rest)) (omega (arith, is)))
  where
    out : (b : ℕ) → 57 < b → is_in_range 48 57 b ≡ false
    out b lt = grind arith

    read : ℕ × List ℕ → Option (ℕ × List ℕ)
    read p = Some p

digit_again : (x : ℕ) (rest : List ℕ) → x < 16 → digit_at (digit_text x ++ rest) ≡ Some (x, rest)
digit_again x rest lt =
    elim (cases_lt x 10) [
      | inl l ↦ ap (λ (t : List ℕ). digit_at (t ++ rest)) (low_text (48 + x) x refl l) ∙ digit_low (48 + x) x rest refl l
      | inr h ↦ ap (λ (t : List ℕ). digit_at (t ++ rest)) (high_text (87 + x) x refl h) ∙ digit_high (87 + x) x rest refl h lt
    ]

pub digit_reads : IsReader (λ n. n < 16) digit_text digit_at
digit_reads = record { takes = digit_takes; again = digit_again }

byte_reads : IsReader (λ n. n < 256) (halves_text 16 digit_text) byte_at
unfolding byte_at
byte_reads = halves_reads 16 256 (omega arith) refl (λ h l a b. omega (arith, a, b)) digit_reads

short_reads : IsReader (λ n. n < 65536) (halves_text 256 (halves_text 16 digit_text)) short_at
unfolding short_at
short_reads = halves_reads 256 65536 (omega arith) refl (λ h l a b. omega (arith, a, b)) byte_reads

pub word_reads : IsReader (λ n. n < 2 ^ 32) word_text word_at
unfolding word_at word_text
word_reads = halves_reads 65536 (2 ^ 32) (omega arith) refl (λ h l a b. omega (arith, a, b)) short_reads

pub long_reads : IsReader (λ n. n < 2 ^ 64) long_text long_at
unfolding long_at long_text
long_reads = halves_reads (2 ^ 32) (2 ^ 64) (omega arith) refl (λ h l a b. omega (arith, a, b)) word_reads

-- eight digits
length-digit : (n : ℕ) → length (digit_text n) ≡ 1
length-digit n = by (ltb n 10)
  where
    by : (c : Bool) → length (cond c ((48 + n) ∷ []) ((87 + n) ∷ [])) ≡ 1
    by true = refl
    by false = refl

length-halves : (base size : ℕ) (half : ℕ → List ℕ) → ((n : ℕ) → length (half n) ≡ size) → (n : ℕ)
    → length (halves_text base half n) ≡ size + size
length-halves base size half h n = omega (arith, length-append (half (n / base)) (half (n % base)), h (n / base), h (n % base))

pub length-word : (n : ℕ) → length (word_text n) ≡ 8
unfolding word_text
length-word = length-halves 65536 4 _ (length-halves 256 2 _ (length-halves 16 1 digit_text length-digit))

-- ---- decimal numbers

numerals : IsNumeralModel (AllDigits 10) (digits_value 10)
numerals = numerals_by_value (AllDigits 10) tells_digits

digit_true : (b : ℕ) → is_ascii_digit b ≡ true → (48 ≤ b) × (b ≤ 57)
digit_true b e = range_true 48 57 b e

value_of : (b : ℕ) → 48 ≤ b → b ≤ 57 → digit_value b ≡ b - 48
value_of b l h = omega (arith, digit_value_digit b (l, h), l)

pub digit_step : (most n b : ℕ) (bytes : List ℕ) (x : ℕ) (rest : List ℕ) → is_ascii_digit b ≡ true
    → number_from most n (b ∷ bytes) ≡ Some (x, rest)
    → (n * 10 + (b - 48) ≤ most) × (number_from most (n * 10 + (b - 48)) bytes ≡ Some (x, rest))
unfolding number_from
digit_step most n b bytes x rest is e =
    elim (chosen (leb (n * 10 + (b - 48)) most) (number_from most (n * 10 + (b - 48)) bytes) None (Some (x, rest))
    (sym (ap (λ c. cond c (cond (leb (n * 10 + (b - 48)) most) (number_from most (n * 10 + (b - 48)) bytes) None) (Some (n, b ∷ bytes))) is) ∙ e)) [
      | inl h ↦ (leb-true (n * 10 + (b - 48)) most h.0, h.1)
      | inr h ↦ absurd (no h.1)
    ]
  where
    no : {A : Type 0} {x : A} → ◌≡◌ {A = Option A} None (Some x) → ⊥
    no e = cc e

from_takes : (most n : ℕ) (bytes : List ℕ) (x : ℕ) (rest : List ℕ) → n ≤ most → number_from most n bytes ≡ Some (x, rest)
    → (ds : List ℕ) × AllDigits 10 ds × (bytes ≡ ds ++ rest) × (x ≡ digits_value_after 10 n ds) × (x ≤ most)
unfolding number_from
from_takes most n [] x rest le e = absurd cc
from_takes most n (b ∷ bytes) x rest le e =
    elim (chosen (is_ascii_digit b) (cond (leb (n * 10 + (b - 48)) most) (number_from most (n * 10 + (b - 48)) bytes) None) (Some (n, b ∷ bytes)) (Some (x, rest)) e) [
      | inl h ↦
          let s = digit_step most n b bytes x rest h.0 e in
          let r = digit_true b h.0 in
          let v = value_of b r.0 r.1 in
          let f = from_takes most (n * 10 + (b - 48)) bytes x rest s.0 s.1 in
          let small : digit_value b < 10 = omega (arith, v, r.1) in
          (b ∷ f.0, (small, f.1), ap (λ (t : List ℕ). b ∷ t) f.2, f.3 ∙ ap (λ (k : ℕ). digits_value_after 10 (n * 10 + k) f.0) (sym v), f.4)
      | inr h ↦
          subst (λ (q : ℕ × List ℕ). (ds : List ℕ) × AllDigits 10 ds × ((b ∷ bytes) ≡ ds ++ q.1) × (q.0 ≡ digits_value_after 10 n ds) × (q.0 ≤ most))
          (some_is (n, b ∷ bytes) (x, rest) h.1) ([], tt, refl, refl, le)
    ]

value_grows : (n : ℕ) (ds : List ℕ) → n ≤ digits_value_after 10 n ds
value_grows n [] = omega arith
value_grows n (d ∷ ds) = omega (arith, value_grows (n * 10 + digit_value d) ds)

from_again : (most n : ℕ) (ds : List ℕ) (end : ℕ) (rest : List ℕ) → AllDigits 10 ds → digits_value_after 10 n ds ≤ most
    → is_ascii_digit end ≡ false
    → number_from most n (ds ++ end ∷ rest) ≡ Some (digits_value_after 10 n ds, end ∷ rest)
unfolding number_from
from_again most n [] end rest all le ends = rw ends refl
from_again most n (d ∷ ds) end rest all le ends =
    let p = tells_digits.parts d ds all in
    let v = value_of d p.0.0 p.0.1 in
    let is : is_ascii_digit d ≡ true = in_range 48 57 d p.0.0 p.0.1 in
    let next : n * 10 + digit_value d ≡ n * 10 + (d - 48) = ap (λ (k : ℕ). n * 10 + k) v in
    let fits : leb (n * 10 + (d - 48)) most ≡ true =
    le-leb (n * 10 + (d - 48)) most (omega (arith, le, next, value_grows (n * 10 + digit_value d) ds)) in
    rw (is, fits)
    (subst (λ (k : ℕ). number_from most k (ds ++ end ∷ rest) ≡ Some (digits_value_after 10 (n * 10 + digit_value d) ds, end ∷ rest)) next
    (from_again most (n * 10 + digit_value d) ds end rest all.1 le ends))

digits_takes : (most : ℕ) (bytes : List ℕ) (x : ℕ) (rest : List ℕ) → most < 2 ^ 64 → digits_at most bytes ≡ Some (x, rest)
    → (bytes ≡ decimal x ++ rest) × (x ≤ most)
unfolding digits_at
digits_takes most [] x rest lt e = absurd cc
digits_takes most (b ∷ bytes) x rest lt e =
    elim (chosen (eqb b 48) (Some (0, bytes)) (cond (is_ascii_digit b) (number_from most 0 (b ∷ bytes)) None) (Some (x, rest)) e) [
      | inl h ↦
          subst (λ (q : ℕ × List ℕ). ((b ∷ bytes) ≡ decimal q.0 ++ q.1) × (q.0 ≤ most)) (some_is (0, bytes) (x, rest) h.1)
          (ap (λ (n : ℕ). n ∷ bytes) (eqb-true b 48 h.0) ∙ ap (λ (t : List ℕ). t ++ bytes) (sym (decimal_digit 0 (omega arith))), omega arith)
      | inr h ↦
          let other : b ≢ 48 = eqb-false b 48 h.0 in
          elim (chosen (is_ascii_digit b) (number_from most 0 (b ∷ bytes)) None (Some (x, rest)) h.1) [
            | inl g ↦
                let s = digit_step most 0 b bytes x rest g.0 g.1 in
                let r = digit_true b g.0 in
                let v = value_of b r.0 r.1 in
                let f = from_takes most (0 * 10 + (b - 48)) bytes x rest s.0 s.1 in
                let all : AllDigits 10 (b ∷ f.0) = (omega (arith, v, r.1), f.1) in
                let is : x ≡ digits_value 10 (b ∷ f.0) = f.3 ∙ ap (λ (k : ℕ). digits_value_after 10 (0 * 10 + k) f.0) (sym v) in
                let text : decimal (digits_value 10 (b ∷ f.0)) ≡ b ∷ f.0 =
                decimal-digits_value numerals (b ∷ f.0) all (omega arith) (λ z. absurd (other z)) (omega (arith, is, f.4, lt)) in
                (ap (λ (t : List ℕ). b ∷ t) f.2 ∙ ap (λ (t : List ℕ). t ++ rest) (sym text ∙ ap decimal (sym is)), f.4)
            | inr g ↦ absurd (no g.1)
          ]
    ]
  where
    no : {A : Type 0} {x : A} → ◌≡◌ {A = Option A} None (Some x) → ⊥
    no e = cc e

digits_again : (most : ℕ) (ds : List ℕ) (end : ℕ) (rest : List ℕ) → AllDigits 10 ds → 48 < get_or ds 0 0 → digits_value 10 ds ≤ most
    → is_ascii_digit end ≡ false → digits_at most (ds ++ end ∷ rest) ≡ Some (digits_value 10 ds, end ∷ rest)
unfolding digits_at
digits_again most [] end rest all first le ends = absurd (omega (arith, first))
digits_again most (d ∷ ds) end rest all first le ends =
    let p = tells_digits.parts d ds all in
    let is : is_ascii_digit d ≡ true = in_range 48 57 d p.0.0 p.0.1 in
    let other : eqb d 48 ≡ false = ne_eqb d 48 (λ z. omega (arith, first, z)) in
    rw (other, is) (from_again most 0 (d ∷ ds) end rest all le ends)

zero_again : (most end : ℕ) (rest : List ℕ) → digits_at most (48 ∷ end ∷ rest) ≡ Some (0, end ∷ rest)
unfolding digits_at
zero_again most end rest = refl

number_digits : (most x end : ℕ) (rest : List ℕ) → most < 2 ^ 64 → x ≤ most → is_ascii_digit end ≡ false
    → digits_at most (decimal x ++ end ∷ rest) ≡ Some (x, end ∷ rest)
number_digits most x end rest lt le ends =
    elim (cases_eq x 0) [
      | inl z ↦
          ap (λ (n : ℕ). digits_at most (decimal n ++ end ∷ rest)) z
          ∙ ap (λ (t : List ℕ). digits_at most (t ++ end ∷ rest)) (decimal_digit 0 (omega arith))
          ∙ zero_again most end rest ∙ ap (λ (n : ℕ). read (n, end ∷ rest)) (sym z)
      | inr n ↦
          let small : x < 2 ^ 64 = omega (arith, le, lt) in
          let d = decimal_is_IsNumeral x small in
          digits_again most (decimal x) end rest d.0.1 (first_decimal x (omega (arith, n)) small) (omega (arith, d.1, le)) ends
          ∙ ap (λ (k : ℕ). read (k, end ∷ rest)) d.1
    ]
  where
    read : ℕ × List ℕ → Option (ℕ × List ℕ)
    read p = Some p

pub number_reads : (most limit end : ℕ) → most + 1 ≡ limit → most < 2 ^ 64 → is_ascii_digit end ≡ false
    → IsReader (λ n. n < limit) (number_text end) (number_at most end)
unfolding number_at
number_reads most limit end is lt ends = record {
  takes = λ bytes x rest e.
      let d = bind_some (digits_at most bytes) (λ y. after_word (end ∷ []) y.1 >>= λ left. Some (y.0, left)) (x, rest) e in
      let w = bind_some (after_word (end ∷ []) d.0.1) (λ left. Some (d.0.0, left)) (x, rest) d.2 in
      let t = digits_takes most bytes d.0.0 d.0.1 lt d.1 in
      let made : ℕ × List ℕ = (d.0.0, w.0) in
      let parts : bytes ≡ number_text end d.0.0 ++ w.0 =
      t.0 ∙ ap (λ (r : List ℕ). decimal d.0.0 ++ r) (after_takes (end ∷ []) d.0.1 w.0 w.1)
      ∙ sym (append_assoc (decimal d.0.0) (end ∷ []) w.0) in
      subst (λ (q : ℕ × List ℕ). (bytes ≡ number_text end q.0 ++ q.1) × (q.0 < limit)) (some_is made (x, rest) w.2)
      (parts, omega (arith, t.1, is));
  again = λ x rest fits.
      rw (append_assoc (decimal x) (end ∷ []) rest, number_digits most x end rest lt (omega (arith, fits, is)) ends, after_again (end ∷ []) rest) refl;
}

-- ---- a flag

abbrev flag_number : Bool → ℕ
flag_number true = 1
flag_number false = 0

flag_same : (n : ℕ) → n < 2 → flag_text (eqb n 1) ≡ number_text 32 n
flag_same zero lt = ap (λ (t : List ℕ). t ++ 32 ∷ []) (sym (decimal_digit 0 (omega arith)))
flag_same (suc zero) lt = ap (λ (t : List ℕ). t ++ 32 ∷ []) (sym (decimal_digit 1 (omega arith)))
flag_same (suc (suc n)) lt = absurd (omega (arith, lt))

flag_back : (b : Bool) → (flag_number b < 2) × (eqb (flag_number b) 1 ≡ b)
flag_back true = (omega arith, refl)
flag_back false = (omega arith, refl)

pub flag_reads : IsReader (λ b. Unit {0}) flag_text flag_at
unfolding flag_at
flag_reads =
    said_reads (λ n. eqb n 1) flag_number (λ b. Unit {0}) flag_text (number_reads 1 2 32 refl (omega arith) refl) (λ n lt. (flag_same n lt, tt))
    (λ b _. flag_back b)

-- ---- names

abbrev IsPlain : List ℕ → Type 0
IsPlain name = AllByRecursion (λ byte. (byte ≢ 0) × (byte ≢ 10)) name

suc_some : (o : Option ℕ) (n : ℕ) → option_map suc o ≡ Some n → (m : ℕ) × (o ≡ Some m) × (n ≡ suc m)
suc_some (Some m) n e = (m, refl, sym (some_is (suc m) n e))
suc_some None n e = absurd cc

end_takes : (bytes : List ℕ) (n : ℕ) → line_end bytes ≡ Some n
    → (bytes ≡ take n bytes ++ 10 ∷ drop (suc n) bytes) × IsPlain (take n bytes) × (length (take n bytes) ≡ n)
unfolding line_end
end_takes [] n e = absurd cc
end_takes (b ∷ bytes) n e =
    elim (chosen (eqb b 10) (Some 0) (cond (eqb b 0) None (option_map suc (line_end bytes))) (Some n) e) [
      | inl h ↦
          subst (λ (k : ℕ). ((b ∷ bytes) ≡ take k (b ∷ bytes) ++ 10 ∷ drop (suc k) (b ∷ bytes)) × IsPlain (take k (b ∷ bytes)) × (length (take k (b ∷ bytes)) ≡ k))
          (some_is 0 n h.1) (ap (λ (c : ℕ). c ∷ bytes) (eqb-true b 10 h.0), tt, refl)
      | inr h ↦
          elim (chosen (eqb b 0) None (option_map suc (line_end bytes)) (Some n) h.1) [
            | inl g ↦ absurd (no g.1)
            | inr g ↦
                let s = suc_some (line_end bytes) n g.1 in
                let r = end_takes bytes s.0 s.1 in
                subst (λ (k : ℕ). ((b ∷ bytes) ≡ take k (b ∷ bytes) ++ 10 ∷ drop (suc k) (b ∷ bytes)) × IsPlain (take k (b ∷ bytes)) × (length (take k (b ∷ bytes)) ≡ k))
                (sym s.2)
                (ap (λ (t : List ℕ). b ∷ t) r.0, ((eqb-false b 0 g.0, eqb-false b 10 h.0), r.1), ap suc r.2)
          ]
    ]
  where
    no : {A : Type 0} {x : A} → ◌≡◌ {A = Option A} None (Some x) → ⊥
    no e = cc e

end_again : (name rest : List ℕ) → IsPlain name → line_end (name ++ 10 ∷ rest) ≡ Some (length name)
unfolding line_end
end_again [] rest plain = refl
end_again (b ∷ name) rest plain =
    rw (ne_eqb b 10 plain.0.1, ne_eqb b 0 plain.0.0, end_again name rest plain.1) refl

one_more : (n : ℕ) → suc n ≡ n + 1
one_more n = omega arith

short_enough : (n : ℕ) → 1 ≤ n → n ≤ 64 → (leb 1 n && leb n 64) ≡ true
short_enough n l h = grind arith

short_true : (n : ℕ) → (leb 1 n && leb n 64) ≡ true → (1 ≤ n) × (n ≤ 64)
short_true n e = grind arith

pub name_reads : IsReader IsName (λ name. name ++ 10 ∷ []) name_at
unfolding name_at
name_reads = record {
  takes = λ bytes x rest e.
      let n = bind_some (line_end bytes) (name_before bytes) (x, rest) e in
      let c = cond_some (leb 1 n.0 && leb n.0 64) (take n.0 bytes, drop (n.0 + 1) bytes) (x, rest) n.2 in
      let t = end_takes bytes n.0 n.1 in
      let s = short_true n.0 c.0 in
      let name : IsName (take n.0 bytes) = record { some = omega (arith, s.0, t.2); short = omega (arith, s.1, t.2); plain = t.1 } in
      subst (λ (q : List ℕ × List ℕ). (bytes ≡ (q.0 ++ 10 ∷ []) ++ q.1) × IsName q.0) c.1 (
        t.0 ∙ ap (λ (k : ℕ). take n.0 bytes ++ 10 ∷ drop k bytes) (one_more n.0)
            ∙ sym (append_assoc (take n.0 bytes) (10 ∷ []) (drop (n.0 + 1) bytes)),
        name,
      );
  again = λ x rest fits.
      let front = take_at x (10 ∷ rest) (length x) refl in
      let left : drop (length x + 1) (x ++ 10 ∷ rest) ≡ rest =
      ap (drop (length x + 1)) (sym (append_assoc x (10 ∷ []) rest))
      ∙ drop_at (x ++ 10 ∷ []) rest (length x + 1) (length-append x (10 ∷ [])) in
      rw (append_assoc x (10 ∷ []) rest, end_again x rest fits.plain, short_enough (length x) fits.some fits.short, front, left) refl;
}

-- ---- as loops go

pub no_bytes : (most n : ℕ) (bytes : List ℕ) → length bytes ≡ 0 → number_from most n bytes ≡ None
unfolding number_from
no_bytes most n [] e = refl
no_bytes most n (b ∷ bytes) e = absurd (omega (arith, e))

pub no_digit : (most n : ℕ) (bytes : List ℕ) → 0 < length bytes → is_ascii_digit (get_or bytes 0 0) ≡ false
    → number_from most n bytes ≡ Some (n, bytes)
unfolding number_from
no_digit most n [] some not = absurd (omega (arith, some))
no_digit most n (b ∷ bytes) some not = rw not refl

pub too_great : (most n : ℕ) (bytes : List ℕ) → 0 < length bytes → is_ascii_digit (get_or bytes 0 0) ≡ true
    → (n * 10 + (get_or bytes 0 0 - 48) ≤ most → ⊥) → number_from most n bytes ≡ None
unfolding number_from
too_great most n [] some is not = absurd (omega (arith, some))
too_great most n (b ∷ bytes) some is not = rw (is, lt-leb (n * 10 + (b - 48)) most (omega (arith, not))) refl

pub digit_more : (most n next : ℕ) (bytes : List ℕ) → 0 < length bytes → is_ascii_digit (get_or bytes 0 0) ≡ true
    → next ≡ n * 10 + (get_or bytes 0 0 - 48) → next ≤ most → number_from most n bytes ≡ number_from most next (drop 1 bytes)
unfolding number_from
digit_more most n next [] some is e le = absurd (omega (arith, some))
digit_more most n next (b ∷ bytes) some is e le =
    rw (is, le-leb (n * 10 + (b - 48)) most (omega (arith, e, le))) (ap (λ (k : ℕ). number_from most k bytes) (sym e))

ended : (bytes : List ℕ) (at : ℕ) → at < length bytes → drop at bytes ≡ get_or bytes at 0 ∷ drop (at + 1) bytes
ended bytes at lt = drop-cons bytes at 0 lt ∙ ap (λ (k : ℕ). get_or bytes at 0 ∷ drop k bytes) (one_more at)

shifted : (at : ℕ) (o : Option ℕ) → option_map (λ k. at + k) (option_map suc o) ≡ option_map (λ k. (at + 1) + k) o
shifted at None = refl
shifted at (Some k) = ap (λ (n : ℕ). found n) (omega arith)
  where
    found : ℕ → Option ℕ
    found n = Some n

module _ (bytes : List ℕ) (at : ℕ) (so_far : option_map (λ k. at + k) (line_end (drop at bytes)) ≡ line_end bytes) where
  pub end_found : at < length bytes → get_or bytes at 0 ≡ 10 → Some at ≡ line_end bytes
  unfolding line_end
  end_found lt is =
      let here : line_end (drop at bytes) ≡ Some 0 = ap line_end (ended bytes at lt) ∙ rw (eq-eqb (get_or bytes at 0) 10 is) refl in
      ap (λ (k : ℕ). some_of k) (omega arith) ∙ sym (ap (option_map (λ k. at + k)) here) ∙ so_far
    where
      some_of : ℕ → Option ℕ
      some_of k = Some k

  pub end_zero : at < length bytes → get_or bytes at 0 ≢ 10 → get_or bytes at 0 ≡ 0 → None ≡ line_end bytes
  unfolding line_end
  end_zero lt other is =
      let here : line_end (drop at bytes) ≡ None =
      ap line_end (ended bytes at lt) ∙ rw (ne_eqb (get_or bytes at 0) 10 other, eq-eqb (get_or bytes at 0) 0 is) refl in
      sym (ap (option_map (λ k. at + k)) here) ∙ so_far

  pub end_none : length bytes ≤ at → None ≡ line_end bytes
  unfolding line_end
  end_none le =
      let here : line_end (drop at bytes) ≡ None = ap line_end (nil_from_length (drop at bytes) (omega (arith, le, length-drop at bytes))) in
      sym (ap (option_map (λ k. at + k)) here) ∙ so_far

  pub end_more : at < length bytes → get_or bytes at 0 ≢ 10 → get_or bytes at 0 ≢ 0
      → option_map (λ k. (at + 1) + k) (line_end (drop (at + 1) bytes)) ≡ line_end bytes
  unfolding line_end
  end_more lt ten nought =
      let here : line_end (drop at bytes) ≡ option_map suc (line_end (drop (at + 1) bytes)) =
      ap line_end (ended bytes at lt) ∙ rw (ne_eqb (get_or bytes at 0) 10 ten, ne_eqb (get_or bytes at 0) 0 nought) refl in
      sym (shifted at (line_end (drop (at + 1) bytes))) ∙ sym (ap (option_map (λ k. at + k)) here) ∙ so_far
