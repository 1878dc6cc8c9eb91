-- What callers need of a table: that its rows can be built anew, and how wide they are.
use Rattle.std.proofs.Common.{◌≡◌, ℕ, suc, ◌<◌, get_or, Bool, true, false, T, Option, Some, None, List, [], ◌∷◌, length, is_lt, refl, arith}
use Rattle.std.specs.Prelude.{is_none}
use Rattle.std.specs.List.{list_all}
use Rattle.std.specs.FinMap.Entries.{below_all}
use Rattle.std.proofs.lemmas.Bool.Decides.{nat_tests}
use Rattle.values.specs.Orders.{key_cmp}
use Rattle.values.specs.Shape.{Columns, key_of, row_fault, fits_schema}
use Rattle.values.specs.declared.fault.ShapeFault.{ShapeFault}
use Rattle.values.specs.declared.row.Row.{Row}
use Rattle.model.specs.Maps.{is_sorted}
use Rattle.model.specs.Table.{table_of}
use Rattle.model.proofs.CallerLemmas.{first, second}
use Rattle.stable.specs.Stable.{Stable, IsStable, ascends, shape_or_order, row_fault_at, or_fault, rows_fault, build_fault}
use Rattle.stable.specs.declared.fault.BuildFault.{BuildFault}
use Rattle.stable.proofs.StableLemmas.{all_shaped, stable_sorted}
use Rattle.stable.proofs.RowsLemmas.{width_of}
use Rattle.std.proofs.lemmas.Grind.{common_steps}

no_fault_here : (i : ℕ) (above : Bool) (fault : Option ShapeFault) → T above → T (is_none fault) → shape_or_order i above fault ≡ None
no_fault_here i above (Some fault) a f = absurd f
no_fault_here i true None a f = refl
no_fault_here i false None a f = absurd a

no_faults : (a b : Option BuildFault) → a ≡ None → b ≡ None → or_fault a b ≡ None
no_faults None b p q = q
no_faults (Some fault) b p q = cc p

module _ (schema : Columns) where
  abbrev all_fitting : List Row → Type 0
  all_fitting rows = T (list_all (λ e. fits_schema schema e.1) (table_of schema.key_cols rows))

  no_fault_after : (i : ℕ) (before : Row) (rows : List Row)
      → T (below_all key_cmp (key_of schema.key_cols before) (table_of schema.key_cols rows))
      → T (is_sorted key_cmp (table_of schema.key_cols rows)) → all_fitting rows → rows_fault schema i (Some before) rows ≡ None
  no_fault_after i before [] b h f = refl
  no_fault_after i before (row ∷ rows) b h f =
      let key_cols = schema.key_cols in
      no_faults (row_fault_at schema i (Some before) row) (rows_fault schema (suc i) (Some row) rows)
      (no_fault_here i (ascends key_cols (Some before) row) (row_fault schema row)
      (first (is_lt (key_cmp (key_of key_cols before) (key_of key_cols row))) _ b) (first (fits_schema schema row) _ f))
      (no_fault_after (suc i) row rows (first (below_all key_cmp (key_of key_cols row) (table_of key_cols rows)) _ h)
      (second (below_all key_cmp (key_of key_cols row) (table_of key_cols rows)) _ h) (second (fits_schema schema row) _ f))

  no_row_fault : (rows : List Row) → T (is_sorted key_cmp (table_of schema.key_cols rows)) → all_fitting rows
      → rows_fault schema 0 None rows ≡ None
  no_row_fault [] h f = refl
  no_row_fault (row ∷ rows) h f = grind (arith, common_steps, no_faults, no_fault_here, first, no_fault_after, second)

  -- the rows of a table have no fault
  pub no_build_fault : (rows : List Row) → IsStable (record { schema = schema; rows = rows }) → build_fault schema rows ≡ None
  no_build_fault rows h = grind (arith, common_steps, no_row_fault, stable_sorted, nat_tests)

-- each row has a value for each column
pub stable_width : (s : Stable) → IsStable s → (sid : ℕ) (d : Row) → sid < length s.rows
    → length (get_or s.rows sid d) ≡ length s.schema.types
stable_width s h sid d lt =
    width_of s.schema.types (get_or s.rows sid d) (all_shaped s.schema s.rows (no_build_fault s.schema s.rows h) sid d lt)
