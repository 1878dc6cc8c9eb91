-- The rows of a table from one place up to another are a table.
use Rattle.std.proofs.Common.{◌≡◌, ℕ, zero, suc, ◌≤◌, Bool, true, false, T, List, [], ◌∷◌, length, take, drop, refl, arith}
use Rattle.std.specs.FinMap.Entries.{below_all}
use Rattle.std.specs.List.{list_all}
use Rattle.values.specs.Orders.{key_cmp}
use Rattle.values.specs.Shape.{Columns, key_of}
use Rattle.values.specs.declared.row.Row.{Row}
use Rattle.values.specs.declared.row.Key.{Key}
use Rattle.model.specs.Maps.{is_sorted}
use Rattle.model.specs.Table.{table_of}
use Rattle.model.proofs.CallerLemmas.{both, first, second, is_keyed_table-table_of}
use Rattle.stable.specs.Stable.{IsStable}
use Rattle.std.proofs.lemmas.Grind.{common_steps}

is_true : (b : Bool) → T b → b ≡ true
is_true true h = refl
is_true false h = absurd h

holds : (b : Bool) → b ≡ true → T b
holds true h = tt
holds false h = cc h

module _ (key_cols : ℕ) where
  sorted_past : (n : ℕ) (rows : List Row) → T (is_sorted key_cmp (table_of key_cols rows))
      → T (is_sorted key_cmp (table_of key_cols (drop n rows)))
  sorted_past zero rows h = h
  sorted_past (suc n) [] h = h
  sorted_past (suc n) (row ∷ rows) h = sorted_past n rows (second _ _ h)

  below_first : (n : ℕ) (key : Key) (rows : List Row) → T (below_all key_cmp key (table_of key_cols rows))
      → T (below_all key_cmp key (table_of key_cols (take n rows)))
  below_first zero key rows h = tt
  below_first (suc n) key [] h = h
  below_first (suc n) key (row ∷ rows) h = both _ _ (first _ _ h) (below_first n key rows (second _ _ h))

  sorted_first : (n : ℕ) (rows : List Row) → T (is_sorted key_cmp (table_of key_cols rows))
      → T (is_sorted key_cmp (table_of key_cols (take n rows)))
  sorted_first zero rows h = tt
  sorted_first (suc n) [] h = h
  sorted_first (suc n) (row ∷ rows) h =
      both _ _ (below_first n (key_of key_cols row) rows (first _ _ h)) (sorted_first n rows (second _ _ h))

  module _ (fits : Key × Row → Bool) where
    all_past : (n : ℕ) (rows : List Row) → T (list_all fits (table_of key_cols rows)) → T (list_all fits (table_of key_cols (drop n rows)))
    all_past zero rows h = h
    all_past (suc n) [] h = h
    all_past (suc n) (row ∷ rows) h = all_past n rows (second _ _ h)

    all_first : (n : ℕ) (rows : List Row) → T (list_all fits (table_of key_cols rows)) → T (list_all fits (table_of key_cols (take n rows)))
    all_first zero rows h = tt
    all_first (suc n) [] h = h
    all_first (suc n) (row ∷ rows) h = both _ _ (first _ _ h) (all_first n rows (second _ _ h))

few_past : (n : ℕ) (rows : List Row) → length (drop n rows) ≤ length rows
few_past zero rows = omega arith
few_past (suc n) [] = omega arith
few_past (suc n) (row ∷ rows) = omega (arith, few_past n rows)

few_first : (n : ℕ) (rows : List Row) → length (take n rows) ≤ length rows
few_first zero rows = omega arith
few_first (suc n) [] = omega arith
few_first (suc n) (row ∷ rows) = omega (arith, few_first n rows)

pub between_stable : (schema : Columns) (from to : ℕ) (rows : List Row) → IsStable (record { schema = schema; rows = rows })
    → IsStable (record { schema = schema; rows = drop from (take to rows) })
between_stable schema from to rows is = grind (arith, common_steps, is_true, is_keyed_table-table_of, sorted_past, sorted_first, first, holds, all_past, all_first, few_past, few_first)
