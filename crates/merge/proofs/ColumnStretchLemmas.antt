-- Stretches of a column, layer by layer.
use Rattle.std.proofs.Common.{◌≡◌, ◌∙◌, ℕ, zero, suc, ◌+◌, ◌-◌, ◌<◌, ◌≤◌, true, false, Option, Some, None, List, []}
use Rattle.std.proofs.Common.{◌∷◌, ◌++◌, length, map, take, drop, get_or, slice_get, refl, sym, ap, subst, arith}
use Rattle.std.proofs.Common.{length-take, length-drop}
use Rattle.std.specs.List.{All}
use Rattle.std.proofs.lemmas.List.{length-map, length-append}
use Rattle.std.proofs.lemmas.List.Elements.{All-head}
use Rattle.std.proofs.lemmas.Option.{slice_get-get_or, slice_get_within, get_or_from_slice_get}
use Rattle.values.specs.Lent.{value_of}
use Rattle.values.specs.Shape.{has_type, is_too_long}
use Rattle.values.specs.declared.row.Row.{Row}
use Rattle.values.specs.declared.value.ColumnType.{ColumnType}
use Rattle.values.specs.declared.value.Value.{Value}
use Rattle.values.specs.declared.value.Value.TheVariants.{Bool as Truth}
use Rattle.values.specs.declared.value.ValueRef.{ValueRef}
use Rattle.model.specs.Effects.{Cells, set_cells}
use Rattle.stable.specs.Rows.{column_values}
use Rattle.merge.specs.Cursor.{TreeCursor, IsCursor, InsertsNext, KeepsNext, ModifiesNext, moved, rows_left}
use Rattle.merge.specs.Fitting.{StandsAt}
use Rattle.merge.specs.ColumnStretches.{HasFirst, IsColumnStretch, PassesColumn, PassesRow, column_cells, stretch_cells, value_count}
use Rattle.merge.specs.Stretches.{stretch_rows}
use Rattle.merge.specs.View.{last_cell}
use Rattle.merge.specs.declared.column_stretch.ColumnStretch.{ColumnStretch}
use Rattle.merge.specs.declared.column_stretch.ColumnStretch.TheVariants.{Stable, Value as One}
use Rattle.merge.specs.declared.stretch.Stretch.TheVariants.{Stable as Together}
use Rattle.merge.proofs.StretchLemmas.{take_append}
use Rattle.merge.proofs.ViewLemmas.{length-set_cells, or_else, slice_get-set_cells}

-- the cursor over a row more than are left
pub over_next : (c : TreeCursor) (row : Row) (below left : List Row) → below ≡ row ∷ left → IsCursor (length below) c
    → IsCursor (suc (length left)) c
over_next c row below left rows is = subst (λ (xs : List Row). IsCursor (length xs) c) rows is

-- ---- the next row

module _ (below left : List Row) (p : PassesRow below left) where
  pub cursor-modified : (cells : Cells) (old new : TreeCursor) → ModifiesNext cells old new → IsCursor (length below) old
      → IsCursor (length left) new
  cursor-modified cells old new h is = h.cursor (length left) (over_next old p.row below left p.rows is)

  as_sum : (c : TreeCursor) → IsCursor (length below) c → IsCursor (length (p.row ∷ []) + length left) c
  as_sum c is =
      let e : suc (length left) ≡ length (p.row ∷ []) + length left = omega arith in
      subst (λ n. IsCursor n c) e (over_next c p.row below left p.rows is)

  pub row-kept : (most n : ℕ) (c : TreeCursor) → KeepsNext most n c → 0 < n → IsCursor (length below) c
      → PassesRow (rows_left c below) (rows_left (moved 1 c) left)
  row-kept most n c h some is =
      let one : length (p.row ∷ []) ≤ n = omega (arith, some) in
      record { row = p.row; rows = ap (rows_left c) p.rows ∙ h.rows (p.row ∷ []) left one (as_sum c is) }

  pub cursor-kept_row : (most n : ℕ) (c : TreeCursor) → KeepsNext most n c → 0 < n → IsCursor (length below) c
      → IsCursor (length left) (moved 1 c)
  cursor-kept_row most n c h some is = h.cursor 1 (length left) (omega (arith, some)) (as_sum c is)

-- ---- the next stretch of a column

module _ (col : ℕ) where
  -- a row that the layer changes has the column below it too
  pub first_below-modified : (cells : Cells) (old new : TreeCursor) (below : List Row) → ModifiesNext cells old new
      → IsCursor (length below) old → HasFirst col (rows_left old below) → HasFirst col below
  first_below-modified cells old new [] h is first = tt
  first_below-modified cells old new (row ∷ below) h is first =
      let wide : col < length (set_cells cells row) = subst (HasFirst col) (h.rows row below is) first in
      omega (arith, wide, length-set_cells cells row)

  -- and so has one that stands as it is
  pub first_below-kept : (most n : ℕ) (c : TreeCursor) (below : List Row) → KeepsNext most n c → 0 < n → IsCursor (length below) c
      → HasFirst col (rows_left c below) → HasFirst col below
  first_below-kept most n c [] h some is first = tt
  first_below-kept most n c (row ∷ below) h some is first =
      let one : length (row ∷ []) ≤ n = omega (arith, some) in
      let e : suc (length below) ≡ length (row ∷ []) + length below = omega arith in
      subst (HasFirst col) (h.rows (row ∷ []) below one (subst (λ m. IsCursor m c) e is)) first

  pub wide-inserted : (row : Row) (old new : TreeCursor) (below : List Row) → InsertsNext row old new → HasFirst col (rows_left old below)
      → col < length row
  wide-inserted row old new below h first = subst (HasFirst col) (h.rows below) first

  -- the value of a row that the layer inserts
  pub passes-inserted : (row : Row) (value : ValueRef) (old new : TreeCursor) (below : List Row) → InsertsNext row old new
      → slice_get row col ≡ Some (value_of value) → PassesColumn col (rows_left old below) (One value) (rows_left new below)
  passes-inserted row value old new below h cell =
      record { passed = row ∷ []; rows = h.rows below; cells = ap (λ x. x ∷ []) cell; is = tt }

  -- the value that the layer gives a row of those below
  pub passes-given : (cells : Cells) (value : ValueRef) (old new : TreeCursor) (below left : List Row) → ModifiesNext cells old new
      → IsCursor (length below) old → HasFirst col below → PassesRow below left → last_cell col None cells ≡ Some (value_of value)
      → PassesColumn col (rows_left old below) (One value) (rows_left new left)
  passes-given cells value old new below left h is first p given =
      let wide : col < length p.row = subst (HasFirst col) p.rows first in
      record {
        passed = set_cells cells p.row ∷ [];
        rows = ap (rows_left old) p.rows ∙ h.rows p.row left (over_next old p.row below left p.rows is);
        cells =
            ap (λ x. x ∷ [])
            (slice_get-set_cells cells p.row col wide ∙ ap (λ o. or_else o (slice_get p.row col)) given);
        is = tt;
      }

  pub length-passed : (old new : List Row) (values : ColumnStretch) (p : PassesColumn col old values new) → length p.passed ≡ value_count values
  length-passed old new (Stable stretch) p =
      let rows = stretch.table.now.rows in
      let cell = λ (row : Row). slice_get row col in
      let own = stretch_rows (Together stretch) in
      omega (
        arith,
        ap length p.cells,
        length-map p.passed cell,
        length-map own cell,
        length-take stretch.len (drop stretch.sid rows),
        length-drop stretch.sid rows,
        p.is.within,
      )
  length-passed old new (One value) p =
      let cell = λ (row : Row). slice_get row col in omega (arith, ap length p.cells, length-map p.passed cell)

  pub some_values : (values : ColumnStretch) → IsColumnStretch values → 0 < value_count values
  some_values (Stable stretch) h = h.some
  some_values (One value) h = omega arith

  -- the value of a row below, where the layer modifies other columns of it
  module _ (cells : Cells) (old new : TreeCursor) (below left : List Row) (values : ColumnStretch) (h : ModifiesNext cells old new)
      (is : IsCursor (length below) old) (first : HasFirst col below) (p : PassesColumn col below values left)
      (few : value_count values ≤ 1) where
    one : length p.passed ≡ 1
    one = omega (arith, length-passed below left values p, some_values values p.is, few)

    passes-row : (passed : List Row) → length passed ≡ 1 → below ≡ passed ++ left → PassesRow below left
    passes-row [] e rows = absurd (omega (arith, e))
    passes-row (row ∷ []) e rows = record { row = row; rows = rows }
    passes-row (row ∷ other ∷ more) e rows = absurd (omega (arith, e))

    pub cursor-below : IsCursor (length left) new
    cursor-below = cursor-modified below left (passes-row p.passed one p.rows) cells old new h is

    above : (passed : List Row) → length passed ≡ 1 → below ≡ passed ++ left → column_cells col passed ≡ stretch_cells col values
        → last_cell col None cells ≡ None → PassesColumn col (rows_left old below) values (rows_left new left)
    above [] e rows own none = absurd (omega (arith, e))
    above (row ∷ other ∷ more) e rows own none = absurd (omega (arith, e))
    above (row ∷ []) e rows own none =
        let wide : col < length row = subst (HasFirst col) rows first in
        record {
          passed = set_cells cells row ∷ [];
          rows = ap (rows_left old) rows ∙ h.rows row left (over_next old row below left rows is);
          cells =
              ap (λ x. x ∷ []) (slice_get-set_cells cells row col wide ∙ ap (λ o. or_else o (slice_get row col)) none) ∙ own;
          is = p.is;
        }

    pub passes-below : last_cell col None cells ≡ None → PassesColumn col (rows_left old below) values (rows_left new left)
    passes-below none = above p.passed one p.rows p.cells none

  -- the values of rows below that stand as they are
  module _ (most n : ℕ) (c : TreeCursor) (below left : List Row) (values : ColumnStretch) (h : KeepsNext most n c) (is : IsCursor (length below) c)
      (p : PassesColumn col below values left) (few : value_count values ≤ n) where
    in_order : IsCursor (length p.passed + length left) c
    in_order = subst (λ m. IsCursor m c) (ap length p.rows ∙ length-append p.passed left) is

    pub passes-kept : PassesColumn col (rows_left c below) values (rows_left (moved (value_count values) c) left)
    passes-kept =
        let count = length-passed below left values p in
        let within : length p.passed ≤ n = omega (arith, count, few) in
        record {
          passed = p.passed;
          rows =
              ap (rows_left c) p.rows
              ∙ h.rows p.passed left within in_order
              ∙ ap (λ m. p.passed ++ rows_left (moved m c) left) count;
          cells = p.cells;
          is = p.is;
        }

    pub cursor-kept : IsCursor (length left) (moved (value_count values) c)
    cursor-kept =
        let count = length-passed below left values p in
        h.cursor (value_count values) (length left) few (subst (λ m. IsCursor (m + length left) c) count in_order)

  -- ---- a range of rows

  pub passes-taken : (n : ℕ) (old new : List Row) (values : ColumnStretch) → PassesColumn col old values new → value_count values ≤ n
      → PassesColumn col (take n old) values (take (n - value_count values) new)
  passes-taken n old new values p few =
      let count = length-passed old new values p in
      let within : length p.passed ≤ n = omega (arith, count, few) in
      record {
        passed = p.passed;
        rows =
            ap (take n) p.rows
            ∙ take_append n p.passed new within
            ∙ ap (λ m. p.passed ++ take (n - m) new) count;
        cells = p.cells;
        is = p.is;
      }

-- ---- rows that may stand in a column

-- the value that is there, or that of no value
abbrev pub value_or_false : Option Value → Value
value_or_false None = Truth false
value_or_false (Some value) = value

pub value-cell : (col : ℕ) (row : Row) → get_or row col (Truth false) ≡ value_or_false (slice_get row col)
value-cell col [] = refl
value-cell zero (x ∷ row) = refl
value-cell (suc col) (x ∷ row) = value-cell col row

values-cells : (col : ℕ) (rows : List Row) → column_values col rows ≡ map value_or_false (column_cells col rows)
values-cells col [] = refl
values-cells col (row ∷ rows) = λ i. value-cell col row i ∷ values-cells col rows i

-- the values are those of the cells
pub same_values : (col : ℕ) (xs ys : List Row) → column_cells col xs ≡ column_cells col ys → column_values col xs ≡ column_values col ys
same_values col xs ys e = values-cells col xs ∙ ap (map value_or_false) e ∙ sym (values-cells col ys)

pub one_value : (col : ℕ) (xs : List Row) (value : Value) → column_cells col xs ≡ Some value ∷ [] → value ∷ [] ≡ column_values col xs
one_value col xs value e = sym (values-cells col xs ∙ ap (map value_or_false) e)

head_same : {X : Type 0} {x y : X} {xs ys : List X} → x ∷ xs ≡ y ∷ ys → x ≡ y
head_same e = cc

tail_same : {X : Type 0} {x y : X} {xs ys : List X} → x ∷ xs ≡ y ∷ ys → xs ≡ ys
tail_same e = cc

module _ (ty : ColumnType) (col : ℕ) where
  there : (row : Row) → StandsAt ty col row → slice_get row col ≡ Some (get_or row col (Truth false))
  there row h = slice_get-get_or row col (Truth false) h.wide

  stands : (x y : Row) → slice_get x col ≡ slice_get y col → StandsAt ty col x → StandsAt ty col y
  stands x y e h =
      let cell : slice_get y col ≡ Some (get_or x col (Truth false)) = sym e ∙ there x h in
      let same = get_or_from_slice_get y col (get_or x col (Truth false)) (Truth false) cell in
      record {
        wide = slice_get_within y col (get_or x col (Truth false)) cell;
        typed = ap (has_type ty) same ∙ h.typed;
        short = ap is_too_long same ∙ h.short;
      }

  -- rows with the same cells may stand there too
  pub same_stand : (xs ys : List Row) → column_cells col xs ≡ column_cells col ys → All (StandsAt ty col) xs → All (StandsAt ty col) ys
  same_stand xs ys e h = λ k d lt. at xs ys k d e h lt
    where
      at : (xs ys : List Row) (k : ℕ) (d : Row) → column_cells col xs ≡ column_cells col ys → All (StandsAt ty col) xs → k < length ys
          → StandsAt ty col (get_or ys k d)
      at xs [] k d e h lt = absurd (omega (arith, lt))
      at [] (y ∷ ys) k d e h lt = absurd (omega (arith, ap length e))
      at (x ∷ xs) (y ∷ ys) zero d e h lt = stands x y (head_same e) (All-head (StandsAt ty col) x xs h)
      at (x ∷ xs) (y ∷ ys) (suc k) d e h lt = at xs ys k d (tail_same e) (λ j r l. h (suc j) r (omega (arith, l))) (omega (arith, lt))

  -- a single value is of the type
  pub value_typed : (xs : List Row) (value : Value) → column_cells col xs ≡ Some value ∷ [] → All (StandsAt ty col) xs
      → has_type ty value ≡ true
  value_typed [] value e h = absurd (omega (arith, ap length e))
  value_typed (x ∷ xs) value e h =
      let same = get_or_from_slice_get x col value (Truth false) (head_same e) in
      ap (has_type ty) (sym same) ∙ (All-head (StandsAt ty col) x xs h).typed
