-- Payloads of format 2: where their faults are, and their round trip.
use Rattle.std.proofs.Common.{◌≡◌, ◌⊎◌, inl, inr, ℕ, zero, suc, ◌+◌, ◌≤◌, ◌&&◌, Bool, true, false, not, cond, ltb, eqb, List, [], ◌∷◌, length, take, drop, map, get_or, replicate, slice_get, Option, Some, Result, Ok, Err, IsTrue, IsFalse, refl, sym, ap, subst, ◌∙◌, arith, rules}
use Rattle.std.specs.Prelude.{IfOk}
use Rattle.std.specs.List.{list_all}
use Rattle.std.specs.Ordering.{eq_by_cmp}
use Rattle.std.proofs.lemmas.Bool.{ltb-false, le-ltb}
use Rattle.std.proofs.lemmas.Bool.Decides.{eqb_tells}
use Rattle.std.proofs.lemmas.Cmp.{eq_by_cmp_equiv}
use Rattle.std.proofs.lemmas.Map.Views.{tells_apart}
use Rattle.std.proofs.lemmas.List.{length-drop, length-replicate, take-replicate}
use Rattle.values.specs.Orders.{value_cmp, value_cmp_total, value_cmp-IsAntisymmetric}
use Rattle.values.specs.Shape.{has_type, is_too_long}
use Rattle.values.specs.declared.value.ColumnType.{ColumnType}
use Rattle.values.specs.declared.value.ColumnType.TheVariants as column
use Rattle.values.specs.declared.value.Value.{Value}
use Rattle.values.specs.declared.value.Value.TheVariants.{Int, Text, Bool as Truth}
use Rattle.blocks.specs.declared.fault.BlockFault.{BlockFault}
use Rattle.blocks.specs.declared.fault.BlockFault.TheVariants.{Short, Long, BadText, TextTooLong, BadPadding, BadEncoding, NoMemory}
use Rattle.blocks.specs.declared.encoding.TheConstants.{PLAIN, CONSTANT}
use Rattle.blocks.specs.Column.{Column, Fits, AllFit}
use Rattle.blocks.specs.Encoding.{is_constant, encoded_of, offset_of, behind, copies_of, unless_constant, plain_of, constant_of, decoding_of, IsEncoded, AnEncodingReadsBack, WhatDecodesIsAnEncoding, AnEncodingIsOfOneList}
use Rattle.blocks.specs.Laws.{IsPayload}
use Rattle.blocks.specs.Payload.{AreBytes, payload_of}
use Rattle.blocks.specs.Reading.{◌>>=◌, and_then, end_at, int_of, ints_at, text_at, texts_at, truths_of, reading_of, Fails, Gives}
use Rattle.blocks.proofs.IntsLemmas.{bind_ok, guard_ok, ok_is, AreBytes-drop}
use Rattle.blocks.proofs.TextsLemmas.{text_measured}
use Rattle.blocks.proofs.LawsLemmas.{is_payload, reads_back}

-- ---- a fault lies among the bytes

abbrev failed : {A : Type 0} → BlockFault → Result A BlockFault
failed fault = Err fault

err_is : {A : Type 0} (x y : BlockFault) → failed {A = A} x ≡ failed {A = A} y → x ≡ y
err_is x y e = cc

-- a test that failed, or was passed before what failed
guard_err : {A : Type 0} (b : Bool) (fault : BlockFault) (x : Result A BlockFault) (y : BlockFault) → cond b (Err fault) x ≡ Err y
    → (fault ≡ y) ⊎ ((b ≡ false) × (x ≡ Err y))
guard_err true fault x y e = inl (err_is fault y e)
guard_err false fault x y e = inr (refl, e)

-- a step that failed, or was done before what failed
bind_err : {A B : Type 0} (r : Result A BlockFault) (next : A → Result B BlockFault) (y : BlockFault) → (r >>= next) ≡ Err y
    → (r ≡ Err y) ⊎ ((x : A) × (r ≡ Ok x) × (next x ≡ Err y))
bind_err (Ok x) next y e = inr (x, refl, e)
bind_err {A = A} {B = B} (Err fault) next y e = inl (ap (λ f. failed {A = A} f) (err_is {A = B} fault y e))

abbrev Within : ℕ → BlockFault → Type 0
Within end fault = offset_of fault ≤ end

end_within : (at : ℕ) (bytes : List ℕ) (fault : BlockFault) → end_at at bytes ≡ Err fault → Within (at + length bytes) fault
end_within at [] fault e = absurd cc
end_within at (byte ∷ bytes) fault e = subst (Within (at + length (byte ∷ bytes))) (err_is (Long at) fault e) (omega arith)

ints_within : (at count : ℕ) (bytes : List ℕ) (fault : BlockFault) → ints_at at count bytes ≡ Err fault → Within (at + length bytes) fault
unfolding ints_at
ints_within at zero bytes fault e = end_within at bytes fault e
ints_within at (suc count) bytes fault e =
    let rest = ints_at (at + 8) count (drop 8 bytes) in
    elim (guard_err (ltb (length bytes) 8) (Short at) (and_then (int_of (take 8 bytes)) rest) fault e) [
      | inl is ↦ subst (Within (at + length bytes)) is (omega arith)
      | inr g ↦
          elim (bind_err rest (λ others. Ok (int_of (take 8 bytes) ∷ others)) fault g.1) [
            | inl deep ↦ omega (arith, ints_within (at + 8) count (drop 8 bytes) fault deep, length-drop 8 bytes, ltb-false _ _ g.0)
            | inr done ↦ absurd (cc done.2)
          ]
    ]

text_within : (i at : ℕ) (bytes : List ℕ) (fault : BlockFault) → text_at i at bytes ≡ Err fault → Within at fault
unfolding text_at
text_within i at bytes fault e = search rules

texts_within : (i at count : ℕ) (bytes : List ℕ) (fault : BlockFault) → texts_at i at count bytes ≡ Err fault
    → Within (at + length bytes) fault
unfolding texts_at
texts_within i at zero bytes fault e = end_within at bytes fault e
texts_within i at (suc count) bytes fault e =
    elim
    (bind_err (text_at i at bytes) (λ found. and_then (Text found.0) (texts_at (i + 1) (at + 2 + length found.0) count found.1))
    fault e) [
      | inl here ↦ omega (arith, text_within i at bytes fault here)
      | inr first ↦
          let found = first.0 in
          let measured = text_measured i at bytes found.0 found.1 first.1 in
          elim (bind_err (texts_at (i + 1) (at + 2 + length found.0) count found.1) (λ others. Ok (Text found.0 ∷ others)) fault first.2) [
            | inl deep ↦ omega (arith, texts_within (i + 1) (at + 2 + length found.0) count found.1 fault deep, measured.counted)
            | inr done ↦ absurd (cc done.2)
          ]
    ]

truths_within : (count : ℕ) (bytes : List ℕ) (fault : BlockFault) → truths_of count bytes ≡ Err fault → Within (length bytes) fault
unfolding truths_of
truths_within count bytes fault e = search rules

read_within : (ty : ColumnType) (count : ℕ) (bytes : List ℕ) (fault : BlockFault) → reading_of ty count bytes ≡ Err fault
    → Within (length bytes) fault
read_within column.Int count bytes fault e = omega (arith, ints_within 0 count bytes fault e)
read_within column.Text count bytes fault e = omega (arith, texts_within 0 0 count bytes fault e)
read_within column.Bool count bytes fault e = truths_within count bytes fault e

pub fault_within : (ty : ColumnType) (count : ℕ) (bytes : List ℕ) (fault : BlockFault) → Fails fault (reading_of ty count bytes)
    → Within (length bytes) fault
fault_within ty count bytes NoMemory fails = omega arith
fault_within ty count bytes (BadText i) fails = omega arith
fault_within ty count bytes (TextTooLong i) fails = omega arith
fault_within ty count bytes BadPadding fails = omega arith
fault_within ty count bytes BadEncoding fails = omega arith
fault_within ty count bytes (Short at) fails = read_within ty count bytes (Short at) fails
fault_within ty count bytes (Long at) fails = read_within ty count bytes (Long at) fails

-- ---- equal values

abbrev pub same : Value → Value → Bool
same = eq_by_cmp value_cmp

pub same_itself : (value : Value) → same value value ≡ true
same_itself value = (eq_by_cmp_equiv value_cmp_total).refl value

pub not_not : (b : Bool) → b ≡ not (not b)
not_not true = refl
not_not false = refl

-- two or more are where each is the first
pub all_first : (values : List Value) (d : Value) → 2 ≤ length values → list_all (same (get_or values 0 d)) values ≡ is_constant values
all_first [] d many = absurd (omega arith)
all_first (value ∷ []) d many = absurd (omega arith)
all_first (value ∷ other ∷ values) d many = rw (same_itself value) refl

all_again : (value : Value) (count : ℕ) → list_all (same value) (replicate count value) ≡ true
all_again value zero = refl
all_again value (suc count) = rw (same_itself value) (all_again value count)

constant_again : (value : Value) (count : ℕ) → 2 ≤ count → is_constant (replicate count value) ≡ true
constant_again value zero many = absurd (omega arith)
constant_again value (suc zero) many = absurd (omega arith)
constant_again value (suc (suc count)) many = all_again value (suc count)

pub both_held : (a b : Bool) → (a && b) ≡ true → (a ≡ true) × (b ≡ true)
both_held true b e = (refl, e)
both_held false b e = absurd cc

all_equal : (value : Value) (values : List Value) → list_all (same value) values ≡ true → replicate (length values) value ≡ values
all_equal value [] e = refl
all_equal value (other ∷ values) e =
    let held = both_held (same value other) (list_all (same value) values) e in
    let first : value ≡ other = tells_apart value_cmp-IsAntisymmetric value other held.0 in
    ap (λ v. v ∷ replicate (length values) value) first ∙ ap (λ vs. other ∷ vs) (all_equal value values held.1)

-- ---- the round trip

fit_again : (ty : ColumnType) (value : Value) (count : ℕ) → Fits ty value → AllFit ty (replicate count value)
fit_again ty value zero fit = tt
fit_again ty value (suc count) fit = (fit, fit_again ty value count fit)

-- what was read behind the encoding's byte
behind_ok : (reading : Result (List Value) BlockFault) (values : List Value) → behind reading ≡ Ok values → reading ≡ Ok values
behind_ok (Ok found) values e = e
behind_ok (Err fault) values e = absurd cc

plain_takes : (ty : ColumnType) (count : ℕ) (bytes : List ℕ) (values : List Value) → AreBytes bytes
    → plain_of ty count bytes ≡ Ok values → IsEncoded ty count (PLAIN ∷ bytes) values
plain_takes ty count bytes values small e =
    let b = bind_ok (behind (reading_of ty count bytes)) unless_constant values e in
    let g = guard_ok (is_constant b.0) BadEncoding (Ok b.0) values b.2 in
    let p = is_payload ty count bytes b.0 small (behind_ok (reading_of ty count bytes) b.0 b.1) in
    let made : IsEncoded ty count (PLAIN ∷ bytes) b.0 =
    record { counted = p.counted; fit = p.fit; spelt = rw g.0 (ap (λ rest. PLAIN ∷ rest) p.spelt) } in
    subst (IsEncoded ty count (PLAIN ∷ bytes)) (ok_is b.0 values g.1) made

copies_take : (ty : ColumnType) (count : ℕ) (bytes : List ℕ) (found : List Value) → 2 ≤ count → IsPayload ty 1 bytes found
    → IsEncoded ty count (CONSTANT ∷ bytes) (copies_of count found)
copies_take ty count bytes [] many p = absurd (omega (arith, p.counted))
copies_take ty count bytes (value ∷ other ∷ values) many p = absurd (omega (arith, p.counted))
copies_take ty count bytes (value ∷ []) many p = record {
  counted = length-replicate count value;
  fit = fit_again ty value count p.fit.0;
  spelt =
      rw (constant_again value count many)
      (ap (λ rest. CONSTANT ∷ rest) (p.spelt ∙ ap (payload_of ty) (sym (take-replicate 1 count value (omega (arith, many))))));
}

constant_takes : (ty : ColumnType) (count : ℕ) (bytes : List ℕ) (values : List Value) → AreBytes bytes
    → constant_of ty count bytes ≡ Ok values → IsEncoded ty count (CONSTANT ∷ bytes) values
constant_takes ty count bytes values small e =
    let g = guard_ok (ltb count 2) BadEncoding (behind (reading_of ty 1 bytes) >>= λ found. Ok (copies_of count found)) values e in
    let b = bind_ok (behind (reading_of ty 1 bytes)) (λ found. Ok (copies_of count found)) values g.1 in
    let p = is_payload ty 1 bytes b.0 small (behind_ok (reading_of ty 1 bytes) b.0 b.1) in
    subst (IsEncoded ty count (CONSTANT ∷ bytes)) (ok_is (copies_of count b.0) values b.2)
    (copies_take ty count bytes b.0 (ltb-false _ _ g.0) p)

-- bytes that decode to values are an encoding of them
pub is_encoded : WhatDecodesIsAnEncoding
is_encoded ty count [] values small e = absurd cc
is_encoded ty count (encoding ∷ bytes) values small e =
    elim (eqb_tells encoding PLAIN) [
      | inl plain ↦
          subst (λ n. IsEncoded ty count (n ∷ bytes) values) (sym plain.1)
          (plain_takes ty count bytes values (AreBytes-drop 1 (encoding ∷ bytes) small)
          (sym (ap
          (λ b. cond b (plain_of ty count bytes) (cond (eqb encoding CONSTANT) (constant_of ty count bytes) (Err BadEncoding)))
          plain.0)
          ∙ e))
      | inr other ↦
          let left =
          sym (ap (λ b. cond b (plain_of ty count bytes)
          (cond (eqb encoding CONSTANT) (constant_of ty count bytes) (Err BadEncoding))) other.0)
          ∙ e in
          elim (eqb_tells encoding CONSTANT) [
            | inl constant ↦
                subst (λ n. IsEncoded ty count (n ∷ bytes) values) (sym constant.1)
                (constant_takes ty count bytes values (AreBytes-drop 1 (encoding ∷ bytes) small)
                (sym (ap (λ b. cond b (constant_of ty count bytes) (Err BadEncoding)) constant.0) ∙ left))
            | inr none ↦ absurd (cc (sym (ap (λ b. cond b (constant_of ty count bytes) (Err BadEncoding)) none.0) ∙ left))
          ]
    ]

plain_again : (ty : ColumnType) (values : List Value) → AllFit ty values → is_constant values ≡ false
    → plain_of ty (length values) (payload_of ty values) ≡ Ok values
plain_again ty values fit differ = rw (reads_back ty values fit, differ) refl

constant_read : (ty : ColumnType) (value other : Value) (values : List Value) → AllFit ty (value ∷ other ∷ values)
    → list_all (same value) (other ∷ values) ≡ true
    → constant_of ty (length (value ∷ other ∷ values)) (payload_of ty (value ∷ [])) ≡ Ok (value ∷ other ∷ values)
constant_read ty value other values fit e =
    let many : ltb (length (value ∷ other ∷ values)) 2 ≡ false = le-ltb _ _ (omega arith) in
    let one : reading_of ty 1 (payload_of ty (value ∷ [])) ≡ Ok (value ∷ []) = reads_back ty (value ∷ []) (fit.0, tt) in
    rw (many, one) (ap (λ vs. Ok (value ∷ vs)) (all_equal value (other ∷ values) e))

encoded_reads : (ty : ColumnType) (values : List Value) (constant : Bool) → is_constant values ≡ constant → AllFit ty values
    → decoding_of ty (length values) (encoded_of ty values) ≡ Ok values
encoded_reads ty values false is fit = rw is (plain_again ty values fit is)
encoded_reads ty [] true is fit = absurd cc
encoded_reads ty (value ∷ []) true is fit = absurd cc
encoded_reads ty (value ∷ other ∷ values) true is fit = rw is (constant_read ty value other values fit is)

-- the encoding of values decodes to them
pub encoding_reads_back : AnEncodingReadsBack
encoding_reads_back ty values fit = encoded_reads ty values (is_constant values) refl fit

-- the payload of values reads as these values
pub encoding_reads : (ty : ColumnType) (count : ℕ) (bytes : List ℕ) (values : List Value) → IsEncoded ty count bytes values
    → decoding_of ty count bytes ≡ Ok values
encoding_reads ty count bytes values p =
    ap (λ n. decoding_of ty n bytes) (sym p.counted) ∙ ap (decoding_of ty (length values)) p.spelt ∙ encoding_reads_back ty values p.fit

pub encoding_of_one_list : AnEncodingIsOfOneList
encoding_of_one_list ty count bytes values others p q =
    ok_is values others (sym (encoding_reads ty count bytes values p) ∙ encoding_reads ty count bytes others q)

-- ---- a value that fits may be pushed

pub fits_typed : (ty : ColumnType) (value : Value) → Fits ty value → IsTrue (has_type ty value) × IsFalse (is_too_long value)
fits_typed column.Int (Int x) fit = (refl, refl)
fits_typed column.Int (Text t) fit = absurd fit
fits_typed column.Int (Truth b) fit = absurd fit
fits_typed column.Text (Int x) fit = absurd fit
fits_typed column.Text (Text t) fit = (refl, le-ltb _ _ fit.short)
fits_typed column.Text (Truth b) fit = absurd fit
fits_typed column.Bool (Int x) fit = absurd fit
fits_typed column.Bool (Text t) fit = absurd fit
fits_typed column.Bool (Truth b) fit = (refl, refl)

abbrev there : Value → Option Value
there value = Some value

some_is : (x y : Value) → there x ≡ there y → x ≡ y
some_is x y e = cc

-- the first of values that fit may be pushed
pub first_typed : (ty : ColumnType) (values : List Value) (value : Value) → slice_get values 0 ≡ Some value → AllFit ty values
    → IsTrue (has_type ty value) × IsFalse (is_too_long value)
first_typed ty [] value is fit = absurd cc
first_typed ty (first ∷ values) value is fit =
    subst (λ v. IsTrue (has_type ty v) × IsFalse (is_too_long v)) (some_is first value is) (fits_typed ty first fit.0)

-- the payload of the first truth
pub first_truth : (bs : List Bool) (b : Bool) → slice_get bs 0 ≡ Some b → payload_of column.Bool (take 1 (map Truth bs)) ≡ cond b 128 0 ∷ []
first_truth [] b is = absurd cc
first_truth (true ∷ bs) true is = refl
first_truth (true ∷ bs) false is = absurd cc
first_truth (false ∷ bs) true is = absurd cc
first_truth (false ∷ bs) false is = refl

-- ---- what a reader answered

pub found_is : (ty : ColumnType) (count : ℕ) (bytes : List ℕ) (r : Result Column BlockFault) → AreBytes bytes
    → IfOk r (λ block. block.ty ≡ ty)
    → Gives (λ block. block.values) r (decoding_of ty count bytes)
    → IfOk r (λ block. (block.ty ≡ ty) × IsEncoded ty count bytes block.values)
found_is ty count bytes (Ok block) small same gives = (same, is_encoded ty count bytes block.values small gives)
found_is ty count bytes (Err fault) small same gives = tt

pub only_is : (ty : ColumnType) (count : ℕ) (bytes : List ℕ) (r : Result Column BlockFault)
    → Gives (λ block. block.values) r (decoding_of ty count bytes)
    → (values : List Value) → IsEncoded ty count bytes values → Gives (λ block. block.values) r (Ok values)
only_is ty count bytes r gives values p = subst (Gives (λ block. block.values) r) (encoding_reads ty count bytes values p) gives
