-- Rows as columns, and columns as rows.
use Rattle.std.proofs.Common.{◌≡◌, ℕ, zero, suc, ◌<◌, Bool, true, false, cond, ◌&&◌, Option, Some, None, List, [], ◌∷◌, length, map, get_or, slice_get, refl, sym, ap, subst, ◌∙◌, arith, rules}
use Rattle.std.specs.Prelude.{◌==◌}
use Rattle.std.specs.List.{range_with_len}
use Rattle.std.proofs.lemmas.Bool.Decides.{nat_tests}
use Rattle.std.proofs.lemmas.List.{length-map, get_or-map}
use Rattle.std.proofs.lemmas.List.FromFn.{length-map-range_with_len, get_or-map-range_with_len, fill_by_all}
use Rattle.std.proofs.lemmas.Option.{slice_get-get_or, get_or_from_slice_get}
use Rattle.std.proofs.lemmas.Simd.{map-map}
use Rattle.values.specs.Shape.{Columns, has_type, is_too_long, value_fault, values_fault, list_fault, or_fault}
use Rattle.values.specs.declared.fault.ShapeFault.{ShapeFault}
use Rattle.values.specs.declared.fault.ShapeFault.TheVariants.{WrongCount}
use Rattle.values.specs.declared.row.Row.{Row}
use Rattle.values.specs.declared.value.ColumnType.{ColumnType}
use Rattle.values.specs.declared.value.ColumnType.TheVariants as column
use Rattle.values.specs.declared.value.Value.{Value}
use Rattle.values.specs.declared.value.Value.TheVariants.{Bool as Truth}
use Rattle.blocks.specs.Column.{Column}
use Rattle.stable.specs.Stable.{IsStable, build_fault}
use Rattle.stable.specs.Rows.{cell_at, row_at, rows_of, column_values, column_at, first_columns, IsKept}
use Rattle.stable.proofs.StableLemmas.{is_stable, all_shaped}
use Rattle.std.proofs.lemmas.Grind.{common_steps}

-- ---- values that fit

pub record IsFit (ty : ColumnType) (v : Value) : Type 0 where
  pub typed : has_type ty v ≡ true
  pub short : is_too_long v ≡ false

neither : (a b : Option ShapeFault) → or_fault a b ≡ None → (a ≡ None) × (b ≡ None)
neither None b h = (refl, h)
neither (Some fault) b h = cc h

cells_fit : (n : ℕ) (types : List ColumnType) (values : List Value) (col : ℕ) → length values ≡ length types → col < length types
    → values_fault n types values ≡ None → IsFit (get_or types col column.Int) (get_or values col (Truth false))
cells_fit n [] values col same lt h = absurd (omega arith)
cells_fit n (ty ∷ types) [] col same lt h = absurd (omega (arith, same))
cells_fit n (ty ∷ types) (v ∷ values) zero same lt h = search rules
cells_fit n (ty ∷ types) (v ∷ values) (suc col) same lt h =
    cells_fit (suc n) types values col (omega (arith, same)) (omega (arith, lt))
    (neither (value_fault ty n v) (values_fault (suc n) types values) h).1

counted : (a : Bool) (f : Option ShapeFault) → cond a f (Some WrongCount) ≡ None → (a ≡ true) × (f ≡ None)
counted true f h = (refl, h)
counted false f h = cc h

same_count : (a b : ℕ) → (a == b) ≡ true → a ≡ b
same_count a b is = grind (arith, nat_tests)

-- a cell of a row that fits
pub fit_at : (types : List ColumnType) (row : Row) (col : ℕ) → col < length types → list_fault types row ≡ None
    → IsFit (get_or types col column.Int) (get_or row col (Truth false))
fit_at types row col lt h =
    let is = counted (length row == length types) (values_fault 0 types row) h in
    cells_fit 0 types row col (same_count (length row) (length types) is.0) lt is.1

-- a row that fits has as many values as there are types
pub width_of : (types : List ColumnType) (row : Row) → list_fault types row ≡ None → length row ≡ length types
width_of types row h = same_count (length row) (length types) (counted (length row == length types) (values_fault 0 types row) h).0

pub both_true : (a b : Bool) → a ≡ true → b ≡ true → (a && b) ≡ true
both_true true b p q = q
both_true false b p q = p

-- ---- what a table keeps

-- columns show as many rows as are asked for
pub length_rows : (count : ℕ) (columns : List Column) → length (rows_of count columns) ≡ count
length_rows count columns = length-map-range_with_len (row_at columns) 0 count

module _ (schema : Columns) (count : ℕ) (columns : List Column) (h : IsKept schema count columns) where
  pub width : length columns ≡ length schema.types
  width = sym (length-map columns (λ c. c.ty)) ∙ ap length h.typed

  -- a column holds the rows' cells of its number
  pub finds_column : (col : ℕ) (x : Column) → x ≡ get_or columns col x → col < length schema.types
      → x ≡ column_at schema.types (rows_of count columns) col
  finds_column col x is lt =
      let here : col < length columns = omega (arith, width, lt) in
      let typed : x.ty ≡ get_or schema.types col column.Int =
      ap (λ (c : Column). c.ty) is
      ∙ sym (get_or-map (λ (c : Column). c.ty) columns col x column.Int here)
      ∙ ap (λ types. get_or types col column.Int) h.typed in
      let filled : length x.values ≡ count = ap (λ (c : Column). length c.values) is ∙ h.filled col x here in
      let cells : x.values ≡ column_values col (rows_of count columns) =
      fill_by_all (λ sid. get_or (row_at columns sid) col (Truth false)) x.values count (Truth false) filled
      (λ k _. sym (get_or-map (cell_at k) columns col x (Truth false) here ∙ ap (cell_at k) (sym is)))
      ∙ sym (map-map (λ (row : Row). get_or row col (Truth false)) (row_at columns) (range_with_len 0 count)) in
      ap (λ ty. record { ty = ty; values = x.values }) typed
      ∙ ap (λ values. record { ty = get_or schema.types col column.Int; values = values }) cells

  -- each row has a value for each column
  pub row_width : (sid : ℕ) → sid < count → length (get_or (rows_of count columns) sid []) ≡ length schema.types
  row_width sid within = grind (arith, common_steps, get_or-map-range_with_len, length-map, width)

  module _ (sid col : ℕ) (x : Column) (is : x ≡ get_or columns col x) (lt : col < length schema.types) (within : sid < count) where
    pub has_value : sid < length x.values
    has_value = grind (arith, common_steps)

    pub finds_cell : (v : Value) → slice_get x.values sid ≡ Some v → slice_get (get_or (rows_of count columns) sid []) col ≡ Some v
    finds_cell v e =
        let here : col < length columns = omega (arith, width, lt) in
        ap (λ (row : Row). slice_get row col) (get_or-map-range_with_len (row_at columns) 0 count sid sid [] within (omega arith))
        ∙ slice_get-get_or (map (cell_at sid) columns) col v (omega (arith, length-map columns (cell_at sid), here))
        ∙ ap Some (get_or-map (cell_at sid) columns col x v here
        ∙ ap (cell_at sid) (sym is)
        ∙ get_or_from_slice_get x.values sid v (Truth false) e)

-- ---- the table of rows without a fault

module _ (schema : Columns) (rows : List Row) (h : build_fault schema rows ≡ None) (count : ℕ) (counts : count ≡ length rows)
    (columns : List Column) (e : columns ≡ first_columns schema.types rows (length schema.types)) where
  row_again : (k : ℕ) (d : Row) → k < length rows → get_or rows k d ≡ row_at columns k
  row_again k d lt =
      let types = schema.types in
      let row = get_or rows k d in
      let w = length types in
      fill_by_all (λ j. cell_at k (column_at types rows j)) row w (Truth false)
      (width_of types row (all_shaped schema rows h k d lt))
      (λ j _. sym (get_or-map (λ (r : Row). get_or r j (Truth false)) rows k d (Truth false) lt))
      ∙ sym (map-map (cell_at k) (column_at types rows) (range_with_len 0 w))
      ∙ ap (map (cell_at k)) (sym e)

  pub shown : rows_of count columns ≡ rows
  shown = ap (λ n. rows_of n columns) counts ∙ sym (fill_by_all (row_at columns) rows (length rows) [] refl (λ k lt. row_again k [] lt))

  pub kept : IsKept schema count columns
  kept =
      let types = schema.types in
      let w = length types in
      let wide : length columns ≡ w = ap length e ∙ length-map-range_with_len (column_at types rows) 0 w in
      record {
        typed =
            ap (map (λ (c : Column). c.ty)) e
            ∙ map-map (λ (c : Column). c.ty) (column_at types rows) (range_with_len 0 w)
            ∙ sym (fill_by_all (λ j. get_or types j column.Int) types w column.Int refl (λ k lt. refl));
        filled =
            λ col d lt. ap (λ (cs : List Column). length (get_or cs col d).values) e
            ∙ ap (λ (c : Column). length c.values)
            (get_or-map-range_with_len (column_at types rows) 0 w col col d (omega (arith, wide, lt)) (omega arith))
            ∙ length-map rows (λ (row : Row). get_or row col (Truth false))
            ∙ sym counts;
        stable = subst (λ rs. IsStable (record { schema = schema; rows = rs })) (sym shown) (is_stable schema rows h);
      }
