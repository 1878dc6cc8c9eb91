-- What the bytes of a position say.
use Rattle.std.proofs.Common.{◌≡◌, ◌≢◌, ◌^◌, ℕ, true, false, ◌&&◌, List, [], ◌∷◌, get_or, Some, None, Result, Ok, Err, refl, sym, ap, ◌∙◌, nat_lt, ◌+◌, drop, arith}
use Rattle.std.proofs.lemmas.Str.{IsUtf8-from_ascii}
use Rattle.std.proofs.lemmas.Str.Parse.{parse_plain}
use Rattle.std.specs.Result.{result_ok}
use Rattle.std.specs.Str.{IsUtf8}
use Rattle.std.specs.Str.Parse.{ParsesUnsigned, digits_value}
use Rattle.std.proofs.lemmas.List.{get_or-drop}
use Rattle.inputs.specs.Cells.{is_numeral, position_of}
use Rattle.inputs.specs.Reading.{Fields}
use Rattle.inputs.proofs.CellLemmas.{numerals, is_numeral-true, numeral-digits, and-false, lt_true, lt_from, digits-ascii}

none_where : (bs : List ℕ) → (is_numeral bs ≡ true → nat_lt (digits_value 10 bs) (2 ^ 64) ≡ true → ⊥) → position_of bs ≡ None
none_where bs never =
    let neither : (is_numeral bs && nat_lt (digits_value 10 bs) (2 ^ 64)) ≡ false = and-false _ _ never in
    rw neither refl

module _ {E : Type 0} where
  -- the number of a parse of what begins with no plus
  pub position_of-parse : (bs : List ℕ) (r : Result ℕ E) → ParsesUnsigned 64 10 bs r → get_or bs 0 0 ≢ 43 → position_of bs ≡ result_ok r
  position_of-parse bs (Ok n) h other =
      let p = parse_plain numerals {E = E} 64 bs (Ok n) h other in
      rw (is_numeral-true bs p.0.0 p.0.1, lt_true _ _ p.0.2) (ap Some (sym p.1))
  position_of-parse bs (Err e) h other =
      let p = parse_plain numerals {E = E} 64 bs (Err e) h other in
      none_where bs (λ a b. let d = numeral-digits bs a in p (d.0, d.1, lt_from _ _ b))

-- a position is a text
pub position_of-no_text : (bs : List ℕ) → ¬ (IsUtf8 bs) → position_of bs ≡ None
position_of-no_text bs h = none_where bs (λ a b. h (IsUtf8-from_ascii bs (digits-ascii bs (numeral-digits bs a).0)))

-- ---- calls of positions

-- the field that stands first of the rest
pub field-is : (fields rest : Fields) (at : ℕ) (field : List ℕ) → drop at fields ≡ field ∷ rest → get_or fields at [] ≡ field
field-is fields rest at field e =
    let here : at + 0 ≡ at = omega arith in
    sym (get_or-drop at fields 0 [] ∙ ap (λ k. get_or fields k []) here) ∙ ap (λ (fs : Fields). get_or fs 0 []) e
