-- A key's place among rows that have its first cells.
use Rattle.std.proofs.Common.{◌≡◌, ℕ, zero, suc, ◌+◌, ◌-◌, ◌<◌, ◌≤◌, true, false, T, List, [], ◌∷◌, length, drop, get_or, Ordering, Less, Equal, Greater, is_lt, inl, inr, refl, sym, ap, ◌∙◌, arith, rules}
use Rattle.std.specs.Ordering.{ordering_reverse, ordering_then}
use Rattle.std.specs.FinMap.Entries.{below_all}
use Rattle.std.proofs.lemmas.Bool.{cases_lt}
use Rattle.std.proofs.lemmas.Cmp.{tied_itself}
use Rattle.std.proofs.lemmas.List.{get_or-map, get_or-take, get_or_default, length-take}
use Rattle.std.proofs.lemmas.Float.{T_from_true}
use Rattle.values.specs.Orders.{value_cmp, value_cmp_total, value_cmp-IsAntisymmetric, key_cmp}
use Rattle.values.specs.Shape.{Columns, key_of}
use Rattle.values.specs.declared.row.Row.{Row}
use Rattle.values.specs.declared.row.Key.{Key}
use Rattle.values.specs.declared.value.Value.{Value}
use Rattle.values.specs.declared.value.Value.TheVariants.{Bool as Truth}
use Rattle.blocks.specs.Column.{Column}
use Rattle.model.specs.Maps.{is_sorted}
use Rattle.model.specs.Table.{table_of, rank}
use Rattle.model.proofs.CallerLemmas.{first, second, less}
use Rattle.stable.specs.Bounds.{IsBracket, IsParted, is_before, value_at}
use Rattle.stable.specs.Rows.{column_values, rows_of, IsKept}
use Rattle.stable.specs.Spans.{HasCells, IsSpan, is_row_below}
use Rattle.stable.specs.Stable.{Stable}
use Rattle.stable.proofs.RankLemmas.{rank-point}
use Rattle.stable.proofs.RowsLemmas.{length_rows, row_width}
use Rattle.std.proofs.lemmas.Grind.{common_steps}

-- keys that tie in the cells before one compare from that one on
met_at : (own key : List Value) (col : ℕ) → col < length own → col < length key
    → ((c : ℕ) → c < col → value_at own c ≡ value_at key c)
    → key_cmp own key
    ≡ ordering_then (value_cmp (value_at own col) (value_at key col)) (key_cmp (drop (suc col) own) (drop (suc col) key))
met_at [] key col lt within same = absurd (omega (arith, lt))
met_at (x ∷ own) [] col lt within same = absurd (omega (arith, within))
met_at (x ∷ own) (y ∷ key) zero lt within same = refl
met_at (x ∷ own) (y ∷ key) (suc col) lt within same =
    let tie : value_cmp x y ≡ Equal = ap (value_cmp x) (sym (same 0 (omega arith))) ∙ tied_itself value_cmp_total x in
    ap (λ o. ordering_then o (key_cmp own key)) tie
    ∙ met_at own key col (omega (arith, lt)) (omega (arith, within)) (λ c early. same (suc c) (omega (arith, early)))

-- and so they do where all cells so far tie
pub drop_tied : (own key : List Value) (n : ℕ) → n ≤ length own → n ≤ length key
    → ((c : ℕ) → c < n → value_at own c ≡ value_at key c) → key_cmp own key ≡ key_cmp (drop n own) (drop n key)
drop_tied own key zero lt within same = refl
drop_tied [] key (suc n) lt within same = absurd (omega (arith, lt))
drop_tied (x ∷ own) [] (suc n) lt within same = absurd (omega (arith, within))
drop_tied (x ∷ own) (y ∷ key) (suc n) lt within same =
    let tie : value_cmp x y ≡ Equal = ap (value_cmp x) (sym (same 0 (omega arith))) ∙ tied_itself value_cmp_total x in
    ap (λ o. ordering_then o (key_cmp own key)) tie
    ∙ drop_tied own key n (omega (arith, lt)) (omega (arith, within)) (λ c early. same (suc c) (omega (arith, early)))

-- one cell more
pub more_cells : (n : ℕ) (key : Key) (row : Row) → HasCells n key row → value_at row n ≡ value_at key n → HasCells (n + 1) key row
more_cells n key row h is c lt = search rules

-- nothing is below a key of no cells
none_below : (own : List Value) → is_lt (key_cmp own []) ≡ false
none_below [] = refl
none_below (x ∷ own) = refl

none_left : (key : List Value) (n : ℕ) → length key ≤ n → drop n key ≡ []
none_left [] zero le = refl
none_left [] (suc n) le = refl
none_left (y ∷ key) zero le = absurd (omega (arith, le))
none_left (y ∷ key) (suc n) le = none_left key n (omega (arith, le))

is_less : (o : Ordering) → o ≡ Less → o ≡ Greater → ⊥
is_less Less p e = cc e
is_less Equal p e = cc e
is_less Greater p e = cc p

not_greater : (o rest : Ordering) → ordering_then o rest ≡ Less → o ≡ Greater → ⊥
not_greater Less rest h e = cc e
not_greater Equal rest h e = cc e
not_greater Greater rest h e = cc h

-- what is not above a value that is below a cell is below it
before_earlier : (cell x z : Value) → (value_cmp x z ≡ Greater → ⊥) → is_before cell z ≡ true → is_before cell x ≡ true
before_earlier cell x z low passes =
    elim (value_cmp x z) as (λ o. value_cmp x z ≡ o → is_before cell x ≡ true) [
      | Less ↦ λ p. ap is_lt (value_cmp_total.trans x z cell p (less _ (T_from_true _ passes)))
      | Equal ↦ λ p. ap (is_before cell) (value_cmp-IsAntisymmetric x z p) ∙ passes
      | Greater ↦ λ p. absurd (low p)
    ] refl

-- ---- cells that two keys share are those of each key between

same_order : (x y : Value) (o : Ordering) → value_cmp x y ≡ o → (value_cmp y x ≡ Greater → ⊥) → (value_cmp x y ≡ Greater → ⊥)
    → x ≡ y
same_order x y Less p a b = absurd (a (value_cmp_total.antisymm y x ∙ ap ordering_reverse p))
same_order x y Equal p a b = value_cmp-IsAntisymmetric x y p
same_order x y Greater p a b = absurd (b p)

first_low : (o rest : Ordering) → (ordering_then o rest ≡ Greater → ⊥) → o ≡ Greater → ⊥
first_low Less rest h e = cc e
first_low Equal rest h e = cc e
first_low Greater rest h e = h refl

rest_low : (o rest : Ordering) → o ≡ Equal → (ordering_then o rest ≡ Greater → ⊥) → rest ≡ Greater → ⊥
rest_low Less rest tie h e = cc tie
rest_low Equal rest tie h e = h e
rest_low Greater rest tie h e = cc tie

between : (a b d key : List Value) (m : ℕ) → m ≤ length a → m ≤ length b → m ≤ length d → m ≤ length key
    → (key_cmp a b ≡ Greater → ⊥) → (key_cmp b d ≡ Greater → ⊥) → ((c : ℕ) → c < m → value_at a c ≡ value_at key c)
    → ((c : ℕ) → c < m → value_at d c ≡ value_at key c) → (c : ℕ) → c < m → value_at b c ≡ value_at key c
between a b d key zero la lb ld lk low high first last c lt = absurd (omega (arith, lt))
between [] b d key (suc m) la lb ld lk low high first last c lt = absurd (omega (arith, la))
between (x ∷ a) [] d key (suc m) la lb ld lk low high first last c lt = absurd (omega (arith, lb))
between (x ∷ a) (y ∷ b) [] key (suc m) la lb ld lk low high first last c lt = absurd (omega (arith, ld))
between (x ∷ a) (y ∷ b) (z ∷ d) [] (suc m) la lb ld lk low high first last c lt = absurd (omega (arith, lk))
between (x ∷ a) (y ∷ b) (z ∷ d) (w ∷ key) (suc m) la lb ld lk low high first last zero lt =
    let x_is : x ≡ w = first 0 (omega arith) in
    let z_is : z ≡ w = last 0 (omega arith) in
    same_order y w (value_cmp y w) refl
    (λ above. first_low (value_cmp x y) (key_cmp a b) low (ap (λ v. value_cmp v y) x_is ∙ above))
    (λ above. first_low (value_cmp y z) (key_cmp b d) high (ap (value_cmp y) z_is ∙ above))
between (x ∷ a) (y ∷ b) (z ∷ d) (w ∷ key) (suc m) la lb ld lk low high first last (suc c) lt =
    let x_is : x ≡ w = first 0 (omega arith) in
    let z_is : z ≡ w = last 0 (omega arith) in
    let y_is : y ≡ w =
    same_order y w (value_cmp y w) refl
    (λ above. first_low (value_cmp x y) (key_cmp a b) low (ap (λ v. value_cmp v y) x_is ∙ above))
    (λ above. first_low (value_cmp y z) (key_cmp b d) high (ap (value_cmp y) z_is ∙ above)) in
    let tie : value_cmp w w ≡ Equal = tied_itself value_cmp_total w in
    between a b d key m (omega (arith, la)) (omega (arith, lb)) (omega (arith, ld)) (omega (arith, lk))
    (rest_low (value_cmp x y) (key_cmp a b) (ap (λ v. value_cmp v y) x_is ∙ ap (value_cmp w) y_is ∙ tie) low)
    (rest_low (value_cmp y z) (key_cmp b d) (ap (λ v. value_cmp v z) y_is ∙ ap (value_cmp w) z_is ∙ tie) high)
    (λ k early. first (suc k) (omega (arith, early))) (λ k early. last (suc k) (omega (arith, early))) c (omega (arith, lt))

-- ---- rows in ascending key

module _ (n : ℕ) where
  after_row : (row : Row) (rows : List Row) → T (below_all key_cmp (key_of n row) (table_of n rows)) → (j : ℕ) (d : Row)
      → j < length rows → key_cmp (key_of n row) (key_of n (get_or rows j d)) ≡ Less
  after_row row [] h j d lt = absurd (omega arith)
  after_row row (other ∷ rows) h zero d lt =
      less (key_cmp (key_of n row) (key_of n other)) (first (is_lt (key_cmp (key_of n row) (key_of n other))) _ h)
  after_row row (other ∷ rows) h (suc j) d lt =
      after_row row rows (second (is_lt (key_cmp (key_of n row) (key_of n other))) _ h) j d (omega arith)

  ascending : (rows : List Row) → T (is_sorted key_cmp (table_of n rows)) → (i j : ℕ) (d : Row) → i < j → j < length rows
      → key_cmp (key_of n (get_or rows i d)) (key_of n (get_or rows j d)) ≡ Less
  ascending [] h i j d lt within = absurd (omega arith)
  ascending (row ∷ rows) h i zero d lt within = absurd (omega arith)
  ascending (row ∷ rows) h zero (suc j) d lt within =
      after_row row rows (first (below_all key_cmp (key_of n row) (table_of n rows)) _ h) j d (omega arith)
  ascending (row ∷ rows) h (suc i) (suc j) d lt within =
      ascending rows (second (below_all key_cmp (key_of n row) (table_of n rows)) _ h) i j d (omega arith) (omega arith)

module _ (n : ℕ) (key : Key) (rows : List Row) (wide : (k : ℕ) → k < length rows → n ≤ length (get_or rows k [])) where
  abbrev own : ℕ → List Value
  own k = key_of n (get_or rows k [])

  own_cell : (k c : ℕ) → c < n → value_at (own k) c ≡ get_or (get_or rows k []) c (Truth false)
  own_cell k c lt = get_or-take n (get_or rows k []) c (Truth false) lt

  own_long : (k : ℕ) → k < length rows → length (own k) ≡ n
  own_long k lt = omega (arith, length-take n (get_or rows k []), wide k lt)

  module _ (sorted : T (is_sorted key_cmp (table_of n rows))) where
    -- cells that the row before some rows and the row after them share with the key
    pub shared_cells : (low high before after m : ℕ) → m ≤ before → m ≤ after → high ≤ length rows → before ≤ n
        → before ≤ length key → (0 < before → 0 < low) → HasCells before key (get_or rows (low - 1) [])
        → (0 < after → high < length rows) → HasCells after key (get_or rows high [])
        → (k : ℕ) → low ≤ k → k < high → HasCells m key (get_or rows k [])
    shared_cells low high before after m least most within few short some first more last k le lt c early =
        let from : 0 < low = some (omega (arith, early, least)) in
        let to : high < length rows = more (omega (arith, early, most)) in
        let here : k < length rows = omega (arith, lt, within) in
        let narrow : m ≤ n = omega (arith, few, least) in
        let down = ascending n rows sorted (low - 1) k [] (omega (arith, from, le)) here in
        let up = ascending n rows sorted k high [] lt to in
        sym (own_cell k c (omega (arith, early, narrow)))
        ∙ between (own (low - 1)) (own k) (own high) key m
        (omega (arith, own_long (low - 1) (omega (arith, from, le, here)), narrow)) (omega (arith, own_long k here, narrow))
        (omega (arith, own_long high to, narrow)) (omega (arith, short, least)) (λ above. is_less _ down above)
        (λ above. is_less _ up above)
        (λ i near. own_cell (low - 1) i (omega (arith, near, narrow)) ∙ first i (omega (arith, near, least)))
        (λ i near. own_cell high i (omega (arith, near, narrow)) ∙ last i (omega (arith, near, most))) c early

    -- ---- the last cell of a key

    module _ (col : ℕ) (here : col < n) (end : col + 1 ≡ length key) (low high : ℕ) (span : IsSpan n key rows col low high) where
      abbrev cell : ℕ → Value
      cell k = get_or (get_or rows k []) col (Truth false)

      there : (k : ℕ) → k < high → k < length rows
      there k lt = omega (arith, lt, span.within)

      column_cell : (k : ℕ) → k < high → value_at (column_values col rows) k ≡ cell k
      column_cell k lt = get_or-map (λ (row : Row). get_or row col (Truth false)) rows k [] (Truth false) (there k lt)

      compared : (k : ℕ) → low ≤ k → k < high
          → key_cmp (own k) key
          ≡ ordering_then (value_cmp (cell k) (value_at key col)) (key_cmp (drop (suc col) (own k)) (drop (suc col) key))
      compared k le lt =
          met_at (own k) key col (omega (arith, own_long k (there k lt), here)) (omega (arith, end))
          (λ c early. own_cell k c (omega (arith, early, here)) ∙ span.cells k le lt c early)
          ∙ ap (λ v. ordering_then (value_cmp v (value_at key col)) (key_cmp (drop (suc col) (own k)) (drop (suc col) key)))
          (own_cell k col here)

      ordered_cells : (i j : ℕ) → low ≤ i → i < j → j < high → value_cmp (cell i) (cell j) ≡ Greater → ⊥
      ordered_cells i j a lt b above =
          let met =
          met_at (own i) (own j) col (omega (arith, own_long i (there i (omega (arith, lt, b))), here))
          (omega (arith, own_long j (there j b), here))
          (λ c early.
          own_cell i c (omega (arith, early, here))
          ∙ span.cells i a (omega (arith, lt, b)) c early
          ∙ sym (span.cells j (omega (arith, a, lt)) b c early)
          ∙ sym (own_cell j c (omega (arith, early, here)))) in
          not_greater (value_cmp (value_at (own i) col) (value_at (own j) col))
          (key_cmp (drop (suc col) (own i)) (drop (suc col) (own j)))
          (sym met ∙ ascending n rows sorted i j [] lt (there j b))
          (ap (λ v. value_cmp v (value_at (own j) col)) (own_cell i col here)
          ∙ ap (value_cmp (cell i)) (own_cell j col here)
          ∙ above)

      -- the rows that share the key's other cells ascend in the column of its last one
      pub column_parted : IsParted (value_at key col) (column_values col rows) low high
      column_parted i j a le b passes = elim (cases_lt i j) [
        | inl lt ↦
            let y = value_at key col in
            ap (is_before y) (column_cell i (omega (arith, lt, b)))
            ∙ before_earlier y (cell i) (cell j) (ordered_cells i j a lt b) (ap (is_before y) (sym (column_cell j b)) ∙ passes)
        | inr ge ↦
            let same : i ≡ j = omega (arith, ge, le) in
            ap (λ k. is_before (value_at key col) (value_at (column_values col rows) k)) same ∙ passes
      ]

      row_is : (o : Ordering) (rest : Ordering) → is_lt rest ≡ false → is_lt (ordering_then o rest) ≡ is_lt o
      row_is Less rest h = refl
      row_is Equal rest h = h
      row_is Greater rest h = refl

      -- a row is below the key where its cell is below the key's last
      row_below : (k : ℕ) → low ≤ k → k < high
          → is_row_below n key rows k ≡ is_before (value_at key col) (value_at (column_values col rows) k)
      row_below k le lt = grind (arith, common_steps, compared, row_is, none_left, none_below, column_cell)

      pub rank-bound : (r : ℕ) → IsBracket (value_at key col) (column_values col rows) low high r r
          → r ≡ rank key (table_of n rows)
      rank-bound r at =
          rank-point n key rows r (omega (arith, at.within, span.within)) (
            (λ k d _ lt.
                let within : k < length rows = omega (arith, lt, at.within, span.within) in
                ap (λ (row : Row). is_lt (key_cmp (key_of n row) key)) (get_or_default rows k d [] within)
                ∙ elim (cases_lt k low) [
                  | inl early ↦ span.below k early
                  | inr late ↦ row_below k late (omega (arith, lt, at.within)) ∙ at.before k late lt
                ]),
            (λ k d le lt.
                ap (λ (row : Row). is_lt (key_cmp (key_of n row) key)) (get_or_default rows k d [] lt)
                ∙ elim (cases_lt k high) [
                  | inl early ↦ row_below k (omega (arith, le, at.after)) early ∙ at.past k le early
                  | inr late ↦ span.above k late lt
                ]),
          )

-- ---- a table's rows

-- each row has a cell for each column of the key
pub wide_rows : (schema : Columns) (count : ℕ) (columns : List Column) → IsKept schema count columns
    → schema.key_cols ≤ length schema.types → (s : Stable) → record { schema = schema; rows = rows_of count columns } ≡ s
    → (k : ℕ) → k < length s.rows → s.schema.key_cols ≤ length (get_or s.rows k [])
wide_rows schema count columns h key s is = grind (arith, common_steps, row_width, length_rows)
