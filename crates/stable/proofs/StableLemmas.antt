-- Rows without a fault are a table.
use Rattle.std.proofs.Common.{◌≡◌, ℕ, zero, suc, ◌<◌, get_or, Bool, true, false, cond, T, Option, Some, None, List, [], ◌∷◌, length, is_lt, refl, sym, subst, arith, rules}
use Rattle.std.specs.Prelude.{nat_lt, is_none, IsTrue}
use Rattle.std.specs.List.{list_all}
use Rattle.std.proofs.lemmas.Bool.Decides.{nat_tests}
use Rattle.std.proofs.lemmas.Float.{T_from_true}
use Rattle.std.specs.FinMap.Entries.{below_all}
use Rattle.values.specs.Orders.{key_cmp, key_cmp_total}
use Rattle.values.specs.Shape.{Columns, key_of, row_fault, fits_schema}
use Rattle.values.specs.declared.fault.ShapeFault.{ShapeFault}
use Rattle.values.specs.declared.limits.TheConstants.{MAX_ROWS}
use Rattle.values.specs.declared.row.Row.{Row}
use Rattle.model.specs.Maps.{is_sorted}
use Rattle.model.specs.Table.{table_of, is_keyed_table}
use Rattle.model.proofs.CallerLemmas.{both, first, less, below_less, is_keyed_table-table_of}
use Rattle.stable.specs.Stable.{Stable, IsStable, table_in, ascends, row_fault_at, or_fault, rows_fault, build_fault}
use Rattle.stable.specs.declared.fault.BuildFault.{BuildFault}
use Rattle.stable.specs.declared.fault.BuildFault.TheVariants.{TooManyRows}
use Rattle.std.proofs.lemmas.Grind.{common_steps}

is_true : (b : Bool) → T b → IsTrue b
is_true true h = refl
is_true false h = absurd h

record IsFine (above : Bool) (fault : Option ShapeFault) : Type 0 where
  ascends : T above
  fits : fault ≡ None

-- neither of two faults
neither : (a b : Option BuildFault) → or_fault a b ≡ None → (a ≡ None) × (b ≡ None)
neither None b h = (refl, h)
neither (Some fault) b h = cc h

module _ (schema : Columns) where
  module _ (i : ℕ) (before : Option Row) (row : Row) (rows : List Row) (h : rows_fault schema i before (row ∷ rows) ≡ None) where
    here : IsFine (ascends schema.key_cols before row) (row_fault schema row)
    here = search rules

    rest : rows_fault schema (suc i) (Some row) rows ≡ None
    rest = (neither (row_fault_at schema i before row) (rows_fault schema (suc i) (Some row) rows) h).1

  all_fit : (i : ℕ) (before : Option Row) (rows : List Row) → rows_fault schema i before rows ≡ None
      → T (list_all (λ e. fits_schema schema e.1) (table_of schema.key_cols rows))
  all_fit i before [] h = tt
  all_fit i before (row ∷ rows) h =
      both (fits_schema schema row) _ (subst (λ f. T (is_none f)) (sym (here i before row rows h).fits) tt)
      (all_fit (suc i) (Some row) rows (rest i before row rows h))

  fits_at : (i : ℕ) (before : Option Row) (rows : List Row) → rows_fault schema i before rows ≡ None → (k : ℕ) (d : Row)
      → k < length rows → row_fault schema (get_or rows k d) ≡ None
  fits_at i before [] h k d lt = absurd (omega arith)
  fits_at i before (row ∷ rows) h zero d lt = (here i before row rows h).fits
  fits_at i before (row ∷ rows) h (suc k) d lt = fits_at (suc i) (Some row) rows (rest i before row rows h) k d (omega arith)

  -- the rows after one that have no fault ascend from it
  above : (i : ℕ) (before : Row) (rows : List Row) → rows_fault schema i (Some before) rows ≡ None
      → T (below_all key_cmp (key_of schema.key_cols before) (table_of schema.key_cols rows))
      × T (is_sorted key_cmp (table_of schema.key_cols rows))
  above i before [] h = (tt, tt)
  above i before (row ∷ rows) h =
      let key_cols = schema.key_cols in
      let after = above (suc i) row rows (rest i (Some before) row rows h) in
      let ascent = (here i (Some before) row rows h).ascends in
      let further =
      below_less key_cmp_total (key_of key_cols before) (key_of key_cols row) (table_of key_cols rows)
      (less (key_cmp (key_of key_cols before) (key_of key_cols row)) ascent) after.0 in (
        both (is_lt (key_cmp (key_of key_cols before) (key_of key_cols row))) _ ascent further,
        both (below_all key_cmp (key_of key_cols row) (table_of key_cols rows)) _ after.0 after.1,
      )

  sorted : (rows : List Row) → rows_fault schema 0 None rows ≡ None → T (is_sorted key_cmp (table_of schema.key_cols rows))
  sorted [] h = tt
  sorted (row ∷ rows) h = grind (arith, common_steps, above, rest, both)

  -- neither too many nor faulty
  parts : (many : Bool) (faults : Option BuildFault) → cond many (Some TooManyRows) faults ≡ None → (many ≡ false) × (faults ≡ None)
  parts true faults h = cc h
  parts false faults h = (refl, h)

  pub is_stable : (rows : List Row) → build_fault schema rows ≡ None → IsStable (record { schema = schema; rows = rows })
  is_stable rows h = grind (arith, common_steps, parts, is_keyed_table-table_of, sorted, is_true, all_fit, nat_tests)

  -- each row of rows without a fault fits the schema
  pub all_shaped : (rows : List Row) → build_fault schema rows ≡ None → (k : ℕ) (d : Row) → k < length rows
      → row_fault schema (get_or rows k d) ≡ None
  all_shaped rows h = fits_at 0 None rows (parts (nat_lt MAX_ROWS (length rows)) (rows_fault schema 0 None rows) h).1

-- ---- a table

-- the rows of a table ascend
pub stable_sorted : (s : Stable) → IsStable s → T (is_sorted key_cmp (table_in s))
stable_sorted s h = first (is_sorted key_cmp (table_in s)) _ (T_from_true (is_keyed_table s.schema.key_cols (table_in s)) h.table.keyed)
