-- A table is the list of its rows.
use Rattle.std.proofs.Common.{◌≡◌, ℕ, T, List, [], ◌∷◌, is_eq, refl, sym, ap, subst}
use Rattle.std.specs.Ordering.{eq_by_cmp}
use Rattle.std.specs.List.{list_all}
use Rattle.std.specs.Cmp.{tied_itself}
use Rattle.values.specs.Orders.{key_cmp, key_cmp_total, key_cmp-IsAntisymmetric}
use Rattle.values.specs.declared.row.Row.{Row}
use Rattle.model.specs.Maps.{is_sorted}
use Rattle.model.specs.Table.{Table, rows_of, is_keyed_table, table_of}
use Rattle.values.specs.Shape.{key_of}
use Rattle.model.proofs.MapsLemmas.{both, first, second, equal}

module _ (key_cols : ℕ) where
  -- the rows of the table of rows are those rows
  pub rows_of-table_of : (rs : List Row) → rows_of (table_of key_cols rs) ≡ rs
  rows_of-table_of [] = refl
  rows_of-table_of (r ∷ rs) = ap (λ xs. r ∷ xs) (rows_of-table_of rs)

  keyed : (t : Table) → T (list_all (λ e. eq_by_cmp key_cmp e.0 (key_of key_cols e.1)) t) → table_of key_cols (rows_of t) ≡ t
  keyed [] h = refl
  keyed (e ∷ t) h =
      let same = sym (key_cmp-IsAntisymmetric e.0 (key_of key_cols e.1) (equal _ (first _ _ h))) in
      let rest = keyed t (second _ _ h) in
      λ i. (same i, e.1) ∷ rest i

  -- a table whose rows stand under their own keys is the table of its rows
  pub table_of-rows_of : (t : Table) → T (is_keyed_table key_cols t) → table_of key_cols (rows_of t) ≡ t
  table_of-rows_of t h = keyed t (second _ _ h)

  all_keyed : (rs : List Row) → T (list_all (λ e. eq_by_cmp key_cmp e.0 (key_of key_cols e.1)) (table_of key_cols rs))
  all_keyed [] = tt
  all_keyed (r ∷ rs) = both _ _ (subst (λ o. T (is_eq o)) (sym (tied_itself key_cmp_total (key_of key_cols r))) tt) (all_keyed rs)

  -- rows in ascending key are those of a lawful table
  pub is_keyed_table-table_of : (rs : List Row) → T (is_sorted key_cmp (table_of key_cols rs))
      → T (is_keyed_table key_cols (table_of key_cols rs))
  is_keyed_table-table_of rs h = both _ _ h (all_keyed rs)
