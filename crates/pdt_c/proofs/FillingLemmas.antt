-- Columns that C gives, value by value.
use Rattle.std.proofs.Common.{◌≡◌, ◌<◌, ◌≤◌, ◌+◌, ◌∙◌, ℕ, false, List, [], ◌∷◌, ◌++◌, length, map, get_or, subst, Option, Some, None, refl, sym, ap, arith, inl, inr, nat_lt}
use Rattle.std.proofs.lemmas.Bool.Decides.{nat_tests}
use Rattle.std.proofs.lemmas.Bool.{cases_lt}
use Rattle.std.proofs.lemmas.List.{get_or_append_left, get_or_push, length-map, length_push, map-append}
use Rattle.std.proofs.lemmas.List.FromFn.{map-range_with_len_more}
use Rattle.std.proofs.lemmas.Str.{is_utf8-from_IsUtf8}
use Rattle.std.specs.Prelude.{IsOk, IsUtf8, MatchOption, Result, Err}
use Rattle.values.specs.declared.value.ColumnType.{ColumnType}
use Rattle.values.specs.declared.value.Value.{Value}
use Rattle.values.specs.declared.value.Value.TheVariants.{Text}
use Rattle.values.specs.declared.value.ColumnType.TheVariants as column
use Rattle.values.specs.Shape.{Columns, IsSchema}
use Rattle.blocks.specs.Column.{Column}
use Rattle.stable.specs.Rows.{row_count}
use Rattle.stable.specs.declared.fault.BuildFault.{BuildFault}
use Rattle.pdt_c.specs.Filling.{given_at, text_of, value_at, AllGiven, AreFirst, Given, IsFilled}
use Rattle.inputs.proofs.CallerLemmas.{not_utf8}

lt_false : (a b : ℕ) → b ≤ a → nat_lt a b ≡ false
lt_false a b h = grind (arith, nat_tests)

pub text_of-text : (bs : List ℕ) → length bs ≤ 4096 → IsUtf8 bs → text_of bs ≡ Some (Text bs)
text_of-text bs short u = rw (lt_false 4096 (length bs) short, is_utf8-from_IsUtf8 bs u) refl

pub text_of-none : (bs : List ℕ) → length bs ≤ 4096 → ¬ (IsUtf8 bs) → text_of bs ≡ None
text_of-none bs short u = rw (lt_false 4096 (length bs) short, not_utf8 bs u) refl

-- with the value of the next row
pub first_more : (ty : ColumnType) (given : Given) (row : ℕ) (values : List Value) (value : Value)
    → AreFirst ty given row values → value_at ty given row ≡ Some value → AreFirst ty given (row + 1) (values ++ value ∷ [])
first_more ty given row values value so_far is =
    map-append (λ (v : Value). Some v) values (value ∷ [])
    ∙ (λ i. so_far i ++ sym is i ∷ [])
    ∙ sym (map-range_with_len_more (value_at ty given) 0 row row (omega arith))

-- ---- all columns

module _ (types : List ColumnType) (all : AllGiven) (rows : ℕ) where
  -- each of these has the values that are given for it
  abbrev pub EachFilled : List Column → Type 0
  EachFilled columns =
      (col : ℕ) (d : Column) → col < length columns → IsFilled (get_or types col column.Int) (given_at all col) rows (get_or columns col d)

  pub filled_more : (columns : List Column) (c : Column) → EachFilled columns
      → IsFilled (get_or types (length columns) column.Int) (given_at all (length columns)) rows c → EachFilled (columns ++ c ∷ [])
  filled_more columns c each here col d within = elim (cases_lt col (length columns)) [
    | inl l ↦
        subst (λ (x : Column). IsFilled (get_or types col column.Int) (given_at all col) rows x)
        (sym (get_or_append_left columns (c ∷ []) d col l)) (each col d l)
    | inr g ↦
        let is : length columns ≡ col = omega (arith, g, within, length_push columns c) in
        subst (λ (n : ℕ). IsFilled (get_or types n column.Int) (given_at all n) rows (get_or (columns ++ c ∷ []) col d)) is
        (subst (λ (x : Column). IsFilled (get_or types (length columns) column.Int) (given_at all (length columns)) rows x)
        (sym (get_or_push columns c d col is)) here)
  ]

  -- so that each has as many as there are rows
  pub count_is : (columns : List Column) → 0 < length columns → EachFilled columns → row_count columns ≡ rows
  count_is [] some each = absurd (omega (arith, some))
  count_is (c ∷ columns) some each = (each 0 c (omega arith)).counted

-- a schema has a column at least
pub some_column : (schema : Columns) (columns : List Column) → IsSchema schema
    → map (λ (c : Column). c.ty) columns ≡ schema.types → 0 < length columns
some_column schema columns lawful typed =
    let wide = ap (λ (ts : List ColumnType). length ts) typed in
    omega (arith, lawful.keyed, lawful.key_within, wide, length-map columns (λ (c : Column). c.ty))

-- ---- faults

pub fault_is : {T : Type 0} (first : Option BuildFault) (r : Result T BuildFault) (fault : BuildFault) → r ≡ Err fault
    → MatchOption first (IsOk r) (λ x. r ≡ Err x) → first ≡ Some fault
fault_is {T} None r fault is ok =
    let e : IsOk {T = T} {E = BuildFault} (Err fault) = subst (λ (x : Result T BuildFault). IsOk x) is ok in cc
fault_is (Some x) r fault is e = let same : x ≡ fault = cc in ap (λ (f : BuildFault). Some f) same
