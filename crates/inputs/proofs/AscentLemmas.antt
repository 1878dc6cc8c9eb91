-- Places in an order, and the rows that stand at them.
use Rattle.std.proofs.Common.{◌≡◌, ◌∙◌, ◌+◌, ◌-◌, ◌<◌, ◌≤◌, ◌==◌, ℕ, true, false, cond, List, [], ◌∷◌, length, drop, map, get_or, None, Ordering, Less, Equal, Greater, is_lt, nat_lt, refl, sym, ap, arith, inl, inr}
use Rattle.std.specs.Cmp.{IsTotalOrder, IsStrictWeakOrder}
use Rattle.std.specs.List.{All, range_with_len}
use Rattle.std.specs.List.Sorted.{IsPermutation, IsSorted}
use Rattle.std.specs.Ordering.{nat_cmp, ordering_then, ordering_reverse, is_eq}
use Rattle.std.proofs.lemmas.Bool.{cases_lt, cases_eq, eq-eqb, ne_eqb}
use Rattle.std.proofs.lemmas.Cmp.{nat_cmp_total, on_total, then_total}
use Rattle.std.proofs.lemmas.List.{get_or-map, length-map, drop_more}
use Rattle.std.proofs.lemmas.List.FromFn.{length-range_with_len, get_or-range_with_len, length-map-range_with_len, get_or-map-range_with_len, fill_by_all}
use Rattle.std.proofs.lemmas.List.Sorted.{ranks_by, length_permutation, All-permutation, IsPermutation-map}
use Rattle.std.proofs.lemmas.Simd.{map-map}
use Rattle.values.specs.Orders.{key_cmp, key_cmp_total, value_cmp}
use Rattle.values.specs.Shape.{key_of}
use Rattle.values.specs.declared.value.Value.{Value}
use Rattle.values.specs.declared.value.Value.TheVariants.{Bool as Truth}
use Rattle.blocks.specs.Column.{Column}
use Rattle.stable.specs.Rows.{cell_at, gathered, row_at, rows_of}
use Rattle.inputs.specs.Filling.{types_in, row_in, rows_in, place_cmp}
use Rattle.inputs.specs.Input.{IsAscending}
use Rattle.inputs.specs.Order.{AreNumbered, IsInOrder, IsLeastRepeat}
use Rattle.inputs.specs.Input.{Numbered}
use Rattle.inputs.proofs.CellLemmas.{lt_true, lt_false}
use Rattle.inputs.proofs.FillingLemmas.{AreLong, length-rows_in, rows_in-at}

-- ---- the order of places

nat_lt-more : (a b : ℕ) → nat_lt (a + 2) (b + 2) ≡ nat_lt a b
nat_lt-more a b = elim (cases_lt a b) [
  | inl l ↦ lt_true (a + 2) (b + 2) (omega (arith, l)) ∙ sym (lt_true a b l)
  | inr l ↦ lt_false (a + 2) (b + 2) (omega (arith, l)) ∙ sym (lt_false a b l)
]

same-more : (a b : ℕ) → (a + 2 == b + 2) ≡ (a == b)
same-more a b = elim (cases_eq a b) [
  | inl e ↦ eq-eqb (a + 2) (b + 2) (ap (λ n. n + 2) e) ∙ sym (eq-eqb a b e)
  | inr n ↦ ne_eqb (a + 2) (b + 2) (λ e. n (omega (arith, e))) ∙ sym (ne_eqb a b n)
]

nat_cmp-more : (a b : ℕ) → nat_cmp (a + 2) (b + 2) ≡ nat_cmp a b
nat_cmp-more a b = (λ i. cond (nat_lt-more a b i) Less (cond (same-more a b i) Equal Greater))

place_cmp_total : (k : ℕ) (columns : List Column) → IsTotalOrder (place_cmp k columns)
place_cmp_total k columns = then_total (on_total (λ (p : ℕ). key_of k (row_at columns p)) key_cmp_total) nat_cmp_total

pub place_cmp_weak : (k : ℕ) (columns : List Column) → IsStrictWeakOrder (λ a b. is_lt (place_cmp k columns a b))
place_cmp_weak k columns = ranks_by (place_cmp_total k columns) (λ (p : ℕ). p)

-- ---- numbers

pub rows_numbered : (count : ℕ) (columns : List Column) → AreNumbered (rows_in count columns)
rows_numbered count columns i j d l m =
    let long = length-rows_in count columns in
    let a = ap (λ (x : Numbered). x.number) (rows_in-at count columns i d (omega (arith, l, m, long))) in
    let b = ap (λ (x : Numbered). x.number) (rows_in-at count columns j d (omega (arith, m, long))) in
    omega (arith, a, b, l)

-- ---- rows that ascend already

above-Less : (o p : Ordering) → p ≡ ordering_reverse o → o ≡ Less → (q : Ordering) → is_lt (ordering_then p q) ≡ false
above-Less Less p e h q = ap (λ (r : Ordering). is_lt (ordering_then r q)) e
above-Less Equal p e h q = cc h
above-Less Greater p e h q = cc h

module _ (k count : ℕ) (columns : List Column)
    (up : (i : ℕ) → i + 1 < count → key_cmp (key_of k (row_at columns i)) (key_of k (row_at columns (i + 1))) ≡ Less) where
  pub ascent-IsAscending : IsAscending k (rows_of count columns)
  ascent-IsAscending j d lt =
      let long : length (rows_of count columns) ≡ count = length-map-range_with_len (row_at columns) 0 count in
      let within : j + 1 < count = omega (arith, lt, long) in
      let a : get_or (rows_of count columns) j d ≡ row_at columns j =
      get_or-map-range_with_len (row_at columns) 0 count j j d (omega (arith, within)) (omega arith) in
      let b : get_or (rows_of count columns) (j + 1) d ≡ row_at columns (j + 1) =
      get_or-map-range_with_len (row_at columns) 0 count (j + 1) (j + 1) d within (omega arith) in
      (λ i. key_cmp (key_of k (a i)) (key_of k (b i))) ∙ up j within

  pub ascent-IsInOrder : IsInOrder k (rows_in count columns)
  ascent-IsInOrder j d low lt =
      let long = length-rows_in count columns in
      let within : j + 1 < count = omega (arith, lt, long) in
      let a = rows_in-at count columns j d (omega (arith, within)) in
      let b = rows_in-at count columns (j + 1) d within in
      let here = key_of k (row_at columns j) in
      let next = key_of k (row_at columns (j + 1)) in
      (λ i. is_lt (ordering_then (key_cmp (key_of k (b i).row) (key_of k (a i).row)) (nat_cmp (b i).number (a i).number)))
      ∙ above-Less (key_cmp here next) (key_cmp next here) (key_cmp_total.antisymm next here) (up j within) (nat_cmp (j + 1 + 2) (j + 2))

  pub ascent-none : IsLeastRepeat k (rows_in count columns) (length (rows_in count columns)) None
  ascent-none j d lt =
      let long = length-rows_in count columns in
      let within : j + 1 < count = omega (arith, lt, long) in
      let a = rows_in-at count columns j d (omega (arith, within)) in
      let b = rows_in-at count columns (j + 1) d within in
      (λ i. is_eq (key_cmp (key_of k (a i).row) (key_of k (b i).row))) ∙ ap is_eq (up j within)

-- ---- rows at places

module _ (columns : List Column) (places : List ℕ) where
  abbrev pub rows_at : List Numbered
  rows_at = map (row_in columns) places

  pub rows_at-get : (i : ℕ) (d : Numbered) → i < length places → get_or rows_at i d ≡ row_in columns (get_or places i 0)
  rows_at-get i d lt = get_or-map (row_in columns) places i 0 d lt

  pub length-rows_at : length rows_at ≡ length places
  length-rows_at = length-map places (row_in columns)

  pub rows_at-in_order : (k : ℕ) → IsSorted (place_cmp k columns) places → IsInOrder k rows_at
  rows_at-in_order k up j d low lt =
      let within : j + 1 < length places = omega (arith, lt, length-rows_at) in
      let a = rows_at-get j d (omega (arith, within)) in
      let b = rows_at-get (j + 1) d within in
      let x = get_or places j 0 in
      let y = get_or places (j + 1) 0 in
      (λ i. is_lt (ordering_then (key_cmp (key_of k (b i).row) (key_of k (a i).row)) (nat_cmp (b i).number (a i).number)))
      ∙ ap (λ (o : Ordering). is_lt (ordering_then (key_cmp (key_of k (row_at columns y)) (key_of k (row_at columns x))) o))
      (nat_cmp-more y x)
      ∙ up j 0 low within

  -- the same rows, without their numbers
  pub rows_at-alone : map (λ row. row.row) rows_at ≡ map (row_at columns) places
  rows_at-alone = map-map (λ (row : Numbered). row.row) (row_in columns) places

  row_at-sorted : (k : ℕ) → k < length places → (cs : List Column) → row_at (map (gathered places) cs) k ≡ row_at cs (get_or places k 0)
  row_at-sorted k lt [] = refl
  row_at-sorted k lt (c ∷ cs) =
      let one : get_or (map (λ place. cell_at place c) places) k (Truth false) ≡ cell_at (get_or places k 0) c =
      get_or-map (λ (place : ℕ). cell_at place c) places k 0 (Truth false) lt in
      let rest = row_at-sorted k lt cs in
      (λ i. one i ∷ rest i)

  -- the rows that the columns in order show
  pub rows_of-sorted : rows_of (length places) (map (gathered places) columns) ≡ map (row_at columns) places
  rows_of-sorted =
      let sorted = map (gathered places) columns in
      sym (fill_by_all (row_at sorted) (map (row_at columns) places) (length places) [] (length-map places (row_at columns))
      (λ k lt. get_or-map (row_at columns) places k 0 [] lt ∙ sym (row_at-sorted k lt columns)))

  pub types_in-sorted : (cs : List Column) → types_in (map (gathered places) cs) ≡ types_in cs
  types_in-sorted cs = map-map (λ (c : Column). c.ty) (gathered places) cs

  pub AreLong-sorted : AreLong (length places) (map (gathered places) columns)
  AreLong-sorted i d lt =
      let within : i < length columns = omega (arith, lt, length-map columns (gathered places)) in
      ap (λ (c : Column). length c.values) (get_or-map (gathered places) columns i d d within)
      ∙ length-map places (λ (place : ℕ). cell_at place (get_or columns i d))

-- ---- all places, in another order

module _ (count : ℕ) (places : List ℕ) (moved : IsPermutation (range_with_len 0 count) places) where
  pub length-places : length places ≡ count
  length-places = length_permutation (range_with_len 0 count) places moved ∙ length-range_with_len 0 count

  pub places_within : All (λ place. place < count) places
  places_within = All-permutation (λ (place : ℕ). place < count) (range_with_len 0 count) places moved
      (λ k d lt. let at = get_or-range_with_len 0 count k d (omega (arith, lt, length-range_with_len 0 count)) in
      omega (arith, at, lt, length-range_with_len 0 count))

  pub rows_at-moved : (columns : List Column) → IsPermutation (rows_in count columns) (rows_at columns places)
  rows_at-moved columns = IsPermutation-map (row_in columns) (range_with_len 0 count) places moved

  pub rows_of-moved : (columns : List Column) → IsPermutation (rows_of count columns) (map (row_at columns) places)
  rows_of-moved columns = IsPermutation-map (row_at columns) (range_with_len 0 count) places moved

-- ---- two keys compared

-- one column more
pub keys_at : (i j : ℕ) (columns : List Column) (n : ℕ) (c : Column) (x y : Value) (o : Ordering) → n < length columns
    → c ≡ get_or columns n c → x ≡ cell_at i c → y ≡ cell_at j c → value_cmp x y ≡ o
    → key_cmp (map (cell_at i) (drop n columns)) (map (cell_at j) (drop n columns))
    ≡ ordering_then o (key_cmp (map (cell_at i) (drop (n + 1) columns)) (map (cell_at j) (drop (n + 1) columns)))
keys_at i j columns n c x y o lt is p q e =
    let cut : drop n columns ≡ c ∷ drop (n + 1) columns = drop_more columns n c lt ∙ ap (λ d. d ∷ drop (n + 1) columns) (sym is) in
    ap (λ cs. key_cmp (map (cell_at i) cs) (map (cell_at j) cs)) cut
    ∙ (λ k. ordering_then (value_cmp (sym p k) (sym q k))
    (key_cmp (map (cell_at i) (drop (n + 1) columns)) (map (cell_at j) (drop (n + 1) columns))))
    ∙ ap (λ r. ordering_then r (key_cmp (map (cell_at i) (drop (n + 1) columns)) (map (cell_at j) (drop (n + 1) columns)))) e

-- ---- the ascent, row by row

lt-Less : (o : Ordering) → is_lt o ≡ true → o ≡ Less
lt-Less Less e = refl
lt-Less Equal e = cc e
lt-Less Greater e = cc e

pub ascent-step : (k : ℕ) (columns : List Column) (i : ℕ) (o : Ordering) → 1 ≤ i
    → o ≡ key_cmp (key_of k (row_at columns (i - 1))) (key_of k (row_at columns i)) → is_lt o ≡ true
    → ((j : ℕ) → j + 1 < i → key_cmp (key_of k (row_at columns j)) (key_of k (row_at columns (j + 1))) ≡ Less)
    → (j : ℕ) → j + 1 < i + 1 → key_cmp (key_of k (row_at columns j)) (key_of k (row_at columns (j + 1))) ≡ Less
ascent-step k columns i o some is less so j lt = elim (cases_eq (j + 1) i) [
  | inl e ↦
      let here : i - 1 ≡ j = omega (arith, e) in
      (λ t. key_cmp (key_of k (row_at columns (sym here t))) (key_of k (row_at columns (e t)))) ∙ sym is ∙ lt-Less o less
  | inr n ↦ so j (omega (arith, n, lt))
]
