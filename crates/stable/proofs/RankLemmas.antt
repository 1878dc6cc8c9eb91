-- A key's place in a table, found by halving.
use Rattle.std.proofs.Common.{◌≡◌, ℕ, zero, suc, ◌<◌, ◌≤◌, Bool, true, false, cond, T, Some, is_some, List, [], ◌∷◌, length, get_or, Ordering, Less, Equal, Greater, is_lt, is_eq, refl, sym, ap, ◌∙◌, subst, arith, rules}
use Rattle.std.specs.Prelude.{slice_get, filter}
use Rattle.std.specs.List.Sorted.{IsPartitionedBy, IsPartitionPoint}
use Rattle.std.specs.FinMap.Entries.{below_all}
use Rattle.std.proofs.lemmas.Float.{T_from_true}
use Rattle.values.specs.Orders.{key_cmp, key_cmp_total, key_cmp-IsAntisymmetric}
use Rattle.values.specs.Shape.{key_of}
use Rattle.values.specs.declared.row.Row.{Row}
use Rattle.values.specs.declared.row.Key.{Key}
use Rattle.model.specs.Maps.{is_sorted}
use Rattle.model.specs.Table.{table_of, row_at, rank}
use Rattle.model.proofs.CallerLemmas.{both, first, second, less, find_first, turn_less, turn_greater, find_below, find_past, below_less, rank_below}
use Rattle.stable.specs.Stable.{holds_key}
use Rattle.std.proofs.lemmas.Grind.{common_steps}

module _ (key_cols : ℕ) (key : Key) where
  -- whether a row is below the key
  abbrev pub is_below_key : Row → Bool
  is_below_key row = is_lt (key_cmp (key_of key_cols row) key)

  rank-below : (row : Row) (rows : List Row) → key_cmp (key_of key_cols row) key ≡ Less
      → rank key (table_of key_cols (row ∷ rows)) ≡ suc (rank key (table_of key_cols rows))
  rank-below row rows h = search rules

  rank-none : (row : Row) (rows : List Row) (r : Ordering) → key_cmp (key_of key_cols row) key ≡ r → is_lt r ≡ false
      → rank key (table_of key_cols (row ∷ rows)) ≡ rank key (table_of key_cols rows)
  rank-none row rows r h above = search rules

  -- the place of the first that isn't below is the key's
  pub rank-point : (rows : List Row) (n : ℕ) → n ≤ length rows
      → IsPartitionPoint (λ row. is_below_key row ≡ true) (λ row. is_below_key row ≡ false) rows n
      → n ≡ rank key (table_of key_cols rows)
  rank-point [] zero le point = refl
  rank-point [] (suc n) le point = absurd (omega arith)
  rank-point (row ∷ rows) zero le point =
      let here : is_below_key row ≡ false = point.1 0 row (omega arith) (omega arith) in
      let rest =
      rank-point rows zero (omega arith)
      ((λ k d low lt. absurd (omega arith)), (λ k d low lt. point.1 (suc k) d (omega arith) (omega arith))) in
      rest
      ∙ sym
      (ap (λ b. length (cond b ((key_of key_cols row, row) ∷ filter (λ e. is_lt (key_cmp e.0 key)) (table_of key_cols rows))
      (filter (λ e. is_lt (key_cmp e.0 key)) (table_of key_cols rows)))) here)
  rank-point (row ∷ rows) (suc n) le point =
      let here : is_below_key row ≡ true = point.0 0 row (omega arith) (omega arith) in
      let rest =
      rank-point rows n (omega arith) (
        (λ k d low lt. point.0 (suc k) d (omega arith) (omega arith)),
        (λ k d low lt. point.1 (suc k) d (omega arith) (omega arith)),
      ) in
      ap suc rest ∙ sym (rank-below row rows (less _ (T_from_true _ here)))

  -- rows in ascending key are parted by the key
  below_earlier : (row : Row) (rows : List Row) → T (below_all key_cmp (key_of key_cols row) (table_of key_cols rows))
      → (j : ℕ) (d : Row) → j < length rows → is_below_key (get_or rows j d) ≡ true → is_below_key row ≡ true
  below_earlier row [] h j d lt passes = absurd (omega arith)
  below_earlier row (other ∷ rows) h zero d lt passes =
      let ascent =
      less (key_cmp (key_of key_cols row) (key_of key_cols other))
      (first (is_lt (key_cmp (key_of key_cols row) (key_of key_cols other))) _ h) in
      ap is_lt (key_cmp_total.trans (key_of key_cols row) (key_of key_cols other) key ascent (less _ (T_from_true _ passes)))
  below_earlier row (other ∷ rows) h (suc j) d lt passes =
      below_earlier row rows (second (is_lt (key_cmp (key_of key_cols row) (key_of key_cols other))) _ h) j d (omega arith) passes

  pub parted : (rows : List Row) → T (is_sorted key_cmp (table_of key_cols rows)) → IsPartitionedBy is_below_key rows
  parted [] h i j d le lt passes = absurd (omega arith)
  parted (row ∷ rows) h zero zero d le lt passes = passes
  parted (row ∷ rows) h zero (suc j) d le lt passes = grind (arith, common_steps, below_earlier, first)
  parted (row ∷ rows) h (suc i) zero d le lt passes = absurd (omega arith)
  parted (row ∷ rows) h (suc i) (suc j) d le lt passes = grind (arith, common_steps, parted rows (second (below_all key_cmp (key_of key_cols row) (table_of key_cols rows)) _ h) i j d (omega arith) (omega arith) passes, second)

  -- the key is there where the row at its place has it
  pub there-at_rank : (rows : List Row) → T (is_sorted key_cmp (table_of key_cols rows))
      → holds_key key_cols key (slice_get rows (rank key (table_of key_cols rows)))
      ≡ is_some (row_at (table_of key_cols rows) key)
  there-at_rank [] h = refl
  there-at_rank (row ∷ rows) h =
      let table = table_of key_cols rows in
      let own = key_of key_cols row in
      let after : T (below_all key_cmp own table) = first (below_all key_cmp own table) _ h in
      elim (key_cmp own key) as
      (λ r. key_cmp own key ≡ r → holds_key key_cols key (slice_get (row ∷ rows) (rank key (table_of key_cols (row ∷ rows))))
      ≡ is_some (row_at (table_of key_cols (row ∷ rows)) key)) [
        | Less ↦ λ p.
            let past = find_past key_cmp key (own, row) table (turn_less key_cmp_total own key p) in
            ap (λ n. holds_key key_cols key (slice_get (row ∷ rows) n)) (rank-below row rows p)
            ∙ there-at_rank rows (second (below_all key_cmp own table) _ h)
            ∙ ap is_some (sym past)
        | Equal ↦ λ p.
            let same : own ≡ key = key_cmp-IsAntisymmetric own key p in
            let above = subst (λ (k : Key). T (below_all key_cmp k table)) same after in
            let here = find_first key_cmp key_cmp_total (own, row) table in
            ap (λ n. holds_key key_cols key (slice_get (row ∷ rows) n)) (rank-none row rows Equal p refl ∙ rank_below key table above)
            ∙ ap is_eq p
            ∙ sym (ap is_some (subst (λ (k : Key). row_at ((own, row) ∷ table) k ≡ Some row) same here))
        | Greater ↦ λ p.
            let above = below_less key_cmp_total key own table (turn_greater key_cmp_total own key p) after in
            let first_above : T (is_lt (key_cmp key own)) = subst (λ r. T (is_lt r)) (sym (turn_greater key_cmp_total own key p)) tt in
            ap (λ n. holds_key key_cols key (slice_get (row ∷ rows) n)) (rank-none row rows Greater p refl ∙ rank_below key table above)
            ∙ ap is_eq p
            ∙ sym (ap is_some (find_below key_cmp_total key ((own, row) ∷ table) (both (is_lt (key_cmp key own)) _ first_above above)))
      ] refl
