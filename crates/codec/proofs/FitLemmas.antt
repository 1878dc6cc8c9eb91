-- What fits a schema: cells of their types, none of them too long.
use Rattle.std.proofs.Common.{◌≡◌, ℕ, zero, suc, ◌<◌, Bool, true, false, cond, eqb, ltb, Option, Some, None, List, [], ◌∷◌, length, take, drop, ◌+◌, sym, refl, ap, ◌∙◌, arith}
use Rattle.std.specs.Prelude.{slice_get, slice_index_or, is_none}
use Rattle.std.proofs.lemmas.List.{drop_more}
use Rattle.std.specs.List.{All}
use Rattle.std.proofs.lemmas.Bool.{eqb-true, eq-eqb}
use Rattle.std.proofs.lemmas.List.Elements.{All-nil, All-cons}
use Rattle.values.specs.Shape.{Columns, IsSchema, has_type, is_too_long, or_fault, value_fault, values_fault, list_fault, cell_fault_at, cell_fault, row_fault, key_fault, fits_schema, key_fits_schema, key_of}
use Rattle.values.specs.declared.value.ColumnType.{ColumnType}
use Rattle.values.specs.declared.value.Value.{Value}
use Rattle.values.specs.declared.fault.ShapeFault.{ShapeFault}
use Rattle.values.specs.declared.fault.ShapeFault.TheVariants.{WrongCount, WrongType, TextTooLong, KeyColumn}
use Rattle.model.specs.declared.entry.Change.TheVariants.{Ins, Del, Mod}
use Rattle.codec.specs.Fit.{change_fits}

-- a value of the type, which isn't too long
pub record IsTyped (ty : ColumnType) (value : Value) : Type 0 where
  pub typed : has_type ty value ≡ true
  pub short : is_too_long value ≡ false

-- a value of each type
abbrev pub AreTyped : List ColumnType → List Value → Type 0
AreTyped [] [] = Unit {0}
AreTyped [] (value ∷ values) = ⊥
AreTyped (ty ∷ types) [] = ⊥
AreTyped (ty ∷ types) (value ∷ values) = IsTyped ty value × AreTyped types values

none_is : (o : Option ShapeFault) → is_none o ≡ true → o ≡ None
none_is None h = refl
none_is (Some x) h = absurd cc

or_none : (a b : Option ShapeFault) → or_fault a b ≡ None → (a ≡ None) × (b ≡ None)
or_none None b e = (refl, e)
or_none (Some x) b e = absurd cc

cond_none : (b c : Bool) (x y : ShapeFault) → cond b (cond c (Some x) None) (Some y) ≡ None → (b ≡ true) × (c ≡ false)
cond_none true true x y e = absurd cc
cond_none true false x y e = (refl, refl)
cond_none false c x y e = absurd cc

test_none : (b : Bool) (o : Option ShapeFault) (x : ShapeFault) → cond b o (Some x) ≡ None → (b ≡ true) × (o ≡ None)
test_none true o x e = (refl, e)
test_none false o x e = absurd cc

guard_none : (b : Bool) (o : Option ShapeFault) (x : ShapeFault) → cond b (Some x) o ≡ None → (b ≡ false) × (o ≡ None)
guard_none true o x e = absurd cc
guard_none false o x e = (refl, e)

value_typed : (ty : ColumnType) (col : ℕ) (value : Value) → value_fault ty col value ≡ None → IsTyped ty value
value_typed ty col value e =
    let parts = cond_none (has_type ty value) (is_too_long value) (TextTooLong col) (WrongType col) e in
    record { typed = parts.0; short = parts.1 }

values_typed : (col : ℕ) (types : List ColumnType) (values : List Value) → length values ≡ length types
    → values_fault col types values ≡ None → AreTyped types values
values_typed col [] [] same e = tt
values_typed col [] (value ∷ values) same e = absurd (omega (arith, same))
values_typed col (ty ∷ types) [] same e = absurd (omega (arith, same))
values_typed col (ty ∷ types) (value ∷ values) same e =
    let parts = or_none (value_fault ty col value) (values_fault (suc col) types values) e in
    (value_typed ty col value parts.0, values_typed (suc col) types values (omega (arith, same)) parts.1)

pub list_typed : (types : List ColumnType) (values : List Value) → list_fault types values ≡ None → AreTyped types values
list_typed types values e =
    let parts = test_none (eqb (length values) (length types)) (values_fault 0 types values) WrongCount e in
    values_typed 0 types values (eqb-true (length values) (length types) parts.0) parts.1

pub typed_short : (types : List ColumnType) (values : List Value) → AreTyped types values → All (λ value. is_too_long value ≡ false) values
typed_short [] [] typed = All-nil (λ value. is_too_long value ≡ false)
typed_short [] (value ∷ values) typed = absurd typed
typed_short (ty ∷ types) [] typed = absurd typed
typed_short (ty ∷ types) (value ∷ values) typed =
    All-cons (λ v. is_too_long v ≡ false) value values typed.0.short (typed_short types values typed.1)

module _ (schema : Columns) where
  pub row_typed : (row : List Value) → change_fits schema (Ins row) ≡ true → AreTyped schema.types row
  row_typed row fits = list_typed schema.types row (none_is (row_fault schema row) fits)

  pub key_typed : (key : List Value) → change_fits schema (Del key) ≡ true → AreTyped (take schema.key_cols schema.types) key
  key_typed key fits = list_typed (take schema.key_cols schema.types) key (none_is (key_fault schema key) fits)

  -- the column of a cell that may be set
  pub record IsCell (col : ℕ) (value : Value) : Type 0 where
    pub ty : ColumnType
    pub there : slice_get schema.types col ≡ Some ty
    pub outside : ltb col schema.key_cols ≡ false
    pub typed : IsTyped ty value

  cell_of : (o : Option ColumnType) (col : ℕ) (value : Value) → slice_get schema.types col ≡ o
      → cell_fault_at o schema.key_cols col value ≡ None → IsCell col value
  cell_of None col value is e = absurd cc
  cell_of (Some ty) col value is e =
      let parts = guard_none (ltb col schema.key_cols) (value_fault ty col value) KeyColumn e in
      record { ty = ty; there = is; outside = parts.0; typed = value_typed ty col value parts.1 }

  pub cell_typed : (col : ℕ) (value : Value) → change_fits schema (Mod col value) ≡ true → IsCell col value
  cell_typed col value fits = cell_of (slice_get schema.types col) col value refl (none_is (cell_fault schema col value) fits)

  get_within : (types : List ColumnType) (col : ℕ) (ty : ColumnType) → slice_get types col ≡ Some ty → col < length types
  get_within [] col ty e = absurd cc
  get_within (x ∷ types) zero ty e = omega arith
  get_within (x ∷ types) (suc col) ty e = omega (arith, get_within types col ty e)

  pub cell_within : (col : ℕ) (value : Value) → IsSchema schema → IsCell col value → col < 32
  cell_within col value lawful cell = omega (arith, get_within schema.types col cell.ty cell.there, lawful.narrow)

-- ---- the other way round

typed_value : (ty : ColumnType) (col : ℕ) (value : Value) → IsTyped ty value → value_fault ty col value ≡ None
typed_value ty col value typed = rw (typed.typed, typed.short) refl

typed_values : (col : ℕ) (types : List ColumnType) (values : List Value) → AreTyped types values → values_fault col types values ≡ None
typed_values col [] values typed = refl
typed_values col (ty ∷ types) [] typed = absurd typed
typed_values col (ty ∷ types) (value ∷ values) typed =
    ap (λ o. or_fault o (values_fault (suc col) types values)) (typed_value ty col value typed.0)
    ∙ typed_values (suc col) types values typed.1

typed_length : (types : List ColumnType) (values : List Value) → AreTyped types values → length values ≡ length types
typed_length [] [] typed = refl
typed_length [] (value ∷ values) typed = absurd typed
typed_length (ty ∷ types) [] typed = absurd typed
typed_length (ty ∷ types) (value ∷ values) typed = ap suc (typed_length types values typed.1)

typed_list : (types : List ColumnType) (values : List Value) → AreTyped types values → list_fault types values ≡ None
typed_list types values typed =
    rw (eq-eqb (length values) (length types) (typed_length types values typed)) (typed_values 0 types values typed)

typed_take : (n : ℕ) (types : List ColumnType) (values : List Value) → AreTyped types values → AreTyped (take n types) (take n values)
typed_take zero types values typed = tt
typed_take (suc n) [] [] typed = tt
typed_take (suc n) [] (value ∷ values) typed = absurd typed
typed_take (suc n) (ty ∷ types) [] typed = absurd typed
typed_take (suc n) (ty ∷ types) (value ∷ values) typed = (typed.0, typed_take n types values typed.1)

-- the key of a row that fits is one that fits
pub key_of_row : (schema : Columns) (row : List Value) → fits_schema schema row ≡ true
    → key_fits_schema schema (key_of schema.key_cols row) ≡ true
key_of_row schema row fits =
    ap is_none (typed_list (take schema.key_cols schema.types) (take schema.key_cols row)
    (typed_take schema.key_cols schema.types row (row_typed schema row fits)))

-- cells of their types fit the schema
module _ (schema : Columns) where
  pub row_fits : (row : List Value) → AreTyped schema.types row → change_fits schema (Ins row) ≡ true
  row_fits row typed = ap is_none (typed_list schema.types row typed)

  pub key_fits : (key : List Value) → AreTyped (take schema.key_cols schema.types) key → change_fits schema (Del key) ≡ true
  key_fits key typed = ap is_none (typed_list (take schema.key_cols schema.types) key typed)

  pub cell_fits : (col : ℕ) (value : Value) → IsCell schema col value → change_fits schema (Mod col value) ≡ true
  cell_fits col value cell =
      ap (λ (o : Option ColumnType). is_none (cell_fault_at o schema.key_cols col value)) cell.there
      ∙ ap (λ b. is_none (cond b (Some KeyColumn) (value_fault cell.ty col value))) cell.outside
      ∙ ap is_none (typed_value cell.ty col value cell.typed)

-- ---- cell by cell, as a loop goes

-- the cell of a column is the first of those that are left
pub fault_here : (types : List ColumnType) (values : List Value) (col : ℕ) (ty : ColumnType) (value : Value) → col < length types
    → length values ≡ length types → value ≡ slice_index_or values col value
    → values_fault col (drop col types) (drop col values)
    ≡ or_fault (value_fault (slice_index_or types col ty) col value) (values_fault (col + 1) (drop (col + 1) types) (drop (col + 1) values))
fault_here types values col ty value within same read =
    let types_left = drop (col + 1) types in
    let values_left = drop (col + 1) values in
    let one = value_fault (slice_index_or types col ty) col in
    let next : suc col ≡ col + 1 = omega arith in
    let cells : values_fault col (drop col types) (drop col values)
    ≡ or_fault (one (slice_index_or values col value)) (values_fault (suc col) types_left values_left) =
    λ i. values_fault col (drop_more types col ty within i) (drop_more values col value (omega (arith, within, same)) i) in
    cells
    ∙ ap (λ v. or_fault (one v) (values_fault (suc col) types_left values_left)) (sym read)
    ∙ ap (λ n. or_fault (one value) (values_fault n types_left values_left)) next

pub fault_first : (a b : Option ShapeFault) → is_none a ≡ false → is_none (or_fault a b) ≡ false
fault_first None b h = absurd cc
fault_first (Some x) b h = refl

pub fault_none : (a b : Option ShapeFault) → is_none a ≡ true → or_fault a b ≡ b
fault_none None b h = refl
fault_none (Some x) b h = absurd cc

pub list_is : (types : List ColumnType) (values : List Value) → length values ≡ length types
    → list_fault types values ≡ values_fault 0 types values
list_is types values same = ap (λ b. cond b (values_fault 0 types values) (Some WrongCount)) (eq-eqb (length values) (length types) same)
