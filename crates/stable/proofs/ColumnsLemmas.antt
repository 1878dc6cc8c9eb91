-- The rows that columns show, compared and tested row by row.
use Rattle.std.proofs.Common.{◌≡◌, ℕ, zero, suc, ◌+◌, ◌-◌, ◌<◌, ◌≤◌, nat_lt, Bool, true, false, cond, ◌&&◌, not, Option, Some, None, List, [], ◌∷◌, length, take, drop, map, get_or, slice_get, Ordering, is_lt, refl, sym, ap, ◌∙◌, arith, rules}
use Rattle.std.specs.Prelude.{◌==◌}
use Rattle.std.specs.Ordering.{ordering_then}
use Rattle.std.specs.List.{All}
use Rattle.std.proofs.lemmas.Bool.Decides.{nat_tests}
use Rattle.std.proofs.lemmas.List.{length-map, take-map, drop_more, drop_all}
use Rattle.std.proofs.lemmas.List.Sums.{AllPass-from_list_all}
use Rattle.std.proofs.lemmas.List.FromFn.{get_or-map-range_with_len}
use Rattle.std.proofs.lemmas.Option.{get_or_from_slice_get}
use Rattle.values.specs.Orders.{value_cmp, key_cmp}
use Rattle.values.specs.Shape.{Columns, key_of, has_type, is_too_long, value_fault, values_fault, row_fault, or_fault}
use Rattle.values.specs.declared.fault.ShapeFault.TheVariants.{WrongType, TextTooLong}
use Rattle.values.specs.declared.limits.TheConstants.{MAX_ROWS}
use Rattle.values.specs.declared.row.Row.{Row}
use Rattle.values.specs.declared.value.ColumnType.{ColumnType}
use Rattle.values.specs.declared.value.Value.{Value}
use Rattle.values.specs.declared.value.Value.TheVariants.{Bool as Truth}
use Rattle.blocks.specs.Column.{Column}
use Rattle.stable.specs.Column.{may_stand, all_may_stand}
use Rattle.stable.specs.Rows.{cell_at, row_at, rows_of, row_count, AreEven, AreColumns}
use Rattle.stable.specs.Stable as table
use Rattle.stable.specs.declared.fault.BuildFault.{BuildFault}
use Rattle.stable.specs.declared.fault.BuildFault.TheVariants.{TooManyRows}
use Rattle.stable.proofs.RowsLemmas.{length_rows}
use Rattle.std.proofs.lemmas.Grind.{common_steps}

-- ---- two rows compared

-- the keys of two rows are those of the key's columns
pub keys_of : (n i j : ℕ) (columns : List Column) → key_cmp (key_of n (row_at columns i)) (key_of n (row_at columns j))
    ≡ key_cmp (map (cell_at i) (take n columns)) (map (cell_at j) (take n columns))
keys_of n i j columns = (λ k. key_cmp (take-map (cell_at i) n columns k) (take-map (cell_at j) n columns k))

-- one column more of two rows
pub compared_at : (i j : ℕ) (columns : List Column) (n : ℕ) (c : Column) (x y : Value) (o : Ordering) → n < length columns
    → c ≡ get_or columns n c → slice_get c.values i ≡ Some x → slice_get c.values j ≡ Some y → value_cmp x y ≡ o
    → key_cmp (map (cell_at i) (drop n columns)) (map (cell_at j) (drop n columns))
    ≡ ordering_then o (key_cmp (map (cell_at i) (drop (n + 1) columns)) (map (cell_at j) (drop (n + 1) columns)))
compared_at i j columns n c x y o lt is p q e =
    let cut : drop n columns ≡ c ∷ drop (n + 1) columns = drop_more columns n c lt ∙ ap (λ d. d ∷ drop (n + 1) columns) (sym is) in
    let one : cell_at i c ≡ x = get_or_from_slice_get c.values i x (Truth false) p in
    let other : cell_at j c ≡ y = get_or_from_slice_get c.values j y (Truth false) q in
    ap (λ cs. key_cmp (map (cell_at i) cs) (map (cell_at j) cs)) cut
    ∙ (λ k. ordering_then (value_cmp (one k) (other k))
    (key_cmp (map (cell_at i) (drop (n + 1) columns)) (map (cell_at j) (drop (n + 1) columns))))
    ∙ ap (λ r. ordering_then r (key_cmp (map (cell_at i) (drop (n + 1) columns)) (map (cell_at j) (drop (n + 1) columns)))) e

-- ---- the rows fit

cell_fits : (ty : ColumnType) (col : ℕ) (v : Value) (a b : Bool) → has_type ty v ≡ a → is_too_long v ≡ b → (a && not b) ≡ true
    → value_fault ty col v ≡ None
cell_fits ty col v true false p q h = (λ i. cond (p i) (cond (q i) (Some (TextTooLong col)) None) (Some (WrongType col)))
cell_fits ty col v true true p q h = cc h
cell_fits ty col v false b p q h = cc h

-- the cells of a row that columns show have no fault
cells_fit : (n : ℕ) (columns : List Column) (sid : ℕ) → All (λ c. all_may_stand c.ty c.values) columns
    → ((col : ℕ) (d : Column) → col < length columns → sid < length (get_or columns col d).values)
    → values_fault n (map (λ c. c.ty) columns) (row_at columns sid) ≡ None
cells_fit n [] sid fit filled = refl
cells_fit n (c ∷ columns) sid fit filled =
    let may = AllPass-from_list_all (may_stand c.ty) c.values (fit 0 c (omega arith)) sid (Truth false) (filled 0 c (omega arith)) in
    let here = cell_fits c.ty n (cell_at sid c) (has_type c.ty (cell_at sid c)) (is_too_long (cell_at sid c)) refl refl may in
    let rest = cells_fit (suc n) columns sid (λ k d lt. fit (suc k) d (omega arith)) (λ k d lt. filled (suc k) d (omega arith)) in
    (λ i. or_fault (here i) (rest i))

equal : (a b : ℕ) → a ≡ b → (a == b) ≡ true
equal a b e = grind (arith, nat_tests, e)

not_more : (a b : ℕ) → b ≤ a → nat_lt a b ≡ false
not_more a b le = grind (arith, nat_tests, le)

module _ (schema : Columns) (count : ℕ) (columns : List Column) where
  -- whether a row is above the one before it
  abbrev pub is_above : ℕ → Bool
  is_above sid = is_lt (key_cmp (key_of schema.key_cols (row_at columns (sid - 1))) (key_of schema.key_cols (row_at columns sid)))

  -- the faults from a row on, where those before it have none
  abbrev pub faults_from : ℕ → Option BuildFault
  faults_from sid = table.rows_fault schema sid (Some (row_at columns (sid - 1))) (drop sid (rows_of count columns))

module _ (schema : Columns) (count : ℕ) (columns : List Column) (h : AreColumns schema count columns) where
  row_fits : (sid : ℕ) → sid < count → row_fault schema (row_at columns sid) ≡ None
  row_fits sid lt = grind (arith, common_steps, length-map, equal, cells_fit)

  abbrev rows : List Row
  rows = rows_of count columns

  cut : (sid : ℕ) → sid < count → drop sid rows ≡ row_at columns sid ∷ drop (sid + 1) rows
  cut sid lt =
      drop_more rows sid [] (omega (arith, lt, length_rows count columns))
      ∙ ap (λ (r : Row). r ∷ drop (sid + 1) rows) (get_or-map-range_with_len (row_at columns) 0 count sid sid [] lt (omega arith))

  pub next_faults : (sid : ℕ) → sid < count
      → faults_from schema count columns sid ≡ table.or_fault (table.shape_or_order sid (is_above schema count columns sid) None)
      (faults_from schema count columns (sid + 1))
  next_faults sid lt = grind (arith, common_steps, cut, row_fits)

  pub ended : (sid : ℕ) → count ≤ sid → faults_from schema count columns sid ≡ None
  ended sid le = grind (arith, common_steps, drop_all, length_rows)

  pub counted_few : count ≤ MAX_ROWS → table.build_fault schema rows ≡ table.rows_fault schema 0 None rows
  counted_few le = grind (arith, common_steps, not_more, length_rows)

  pub counted_many : MAX_ROWS < count → table.build_fault schema rows ≡ Some TooManyRows
  counted_many lt = grind (arith, common_steps, length_rows, nat_tests)

-- the first row has no row before it
pub first_faults : (schema : Columns) (count : ℕ) (columns : List Column) → AreColumns schema count columns
    → table.rows_fault schema 0 None (rows_of count columns)
    ≡ table.rows_fault schema 1 (Some (row_at columns 0)) (drop 1 (rows_of count columns))
first_faults schema zero columns h = refl
first_faults schema (suc n) columns h =
    ap (λ f. table.or_fault (table.shape_or_order 0 true f)
    (table.rows_fault schema 1 (Some (row_at columns 0)) (drop 1 (rows_of (suc n) columns))))
    (row_fits schema (suc n) columns h 0 (omega arith))

-- ---- even columns

-- one column more
pub count_more : (columns : List Column) (n : ℕ) (c : Column) → AreEven columns → n < length columns → c ≡ get_or columns n c
    → length c.values ≡ row_count (take (n + 1) columns)
count_more [] n c even lt is = absurd (omega arith)
count_more (x ∷ columns) n c even lt is = search rules
