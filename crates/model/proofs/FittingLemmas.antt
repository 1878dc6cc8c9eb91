-- Rows that fit the schema stay so under effects, composition and writes.
use Rattle.std.proofs.Common.{◌≡◌, ℕ, zero, suc, Bool, false, not, ◌&&◌, T, Option, Some, None, is_none, List, [], ◌∷◌, length, set, length-set, nat_le, nat_cmp, refl, sym, subst, arith, rules}
use Rattle.std.specs.Prelude.{◌==◌, slice_get}
use Rattle.std.specs.List.{list_all}
use Rattle.values.specs.Orders.{key_cmp, key_cmp_total, key_cmp-IsAntisymmetric}
use Rattle.values.specs.Shape.{Columns, has_type, is_too_long, value_fault, or_fault, values_fault, list_fault, cell_fault_at, fits_schema, cell_fits_schema}
use Rattle.values.specs.declared.value.ColumnType.{ColumnType}
use Rattle.values.specs.declared.value.Value.{Value}
use Rattle.values.specs.declared.fault.ShapeFault.{ShapeFault}
use Rattle.values.specs.declared.row.Row.{Row}
use Rattle.values.specs.declared.row.Key.{Key}
use Rattle.model.specs.declared.effect.Effect.{Effect}
use Rattle.model.specs.declared.effect.Effect.TheVariants.{Ins, Del, Mod, Rep}
use Rattle.model.specs.declared.write.Write.{Write}
use Rattle.model.specs.declared.write.Write.TheVariants.{Insert, Delete, Set}
use Rattle.model.specs.Maps.{find, put, is_sorted}
use Rattle.model.specs.Table.{Table, row_at}
use Rattle.model.specs.Effects.{Cells, set_cells, Effects, effect_fits_schema, row_after, table_with}
use Rattle.model.specs.Composition.{over_cells, composed_effect, composed_effects}
use Rattle.model.specs.Writes.{write_fits_schema, key_of_write, effect_of_write}
use Rattle.model.proofs.MapsLemmas.{both, first, second, changed_by, holds_at, each_at, each_from}
use Rattle.model.proofs.CompositionLemmas.{row_at-table_with, effect_at-composed_effects, sorted-table_with, sorted-composed_effects}
use Rattle.model.proofs.WritesLemmas.{sets_no_key}
use Rattle.std.proofs.lemmas.Grind.{common_steps}

-- ---- values

-- whether a value has no fault in any column of the type
abbrev has_no_fault : ColumnType → Value → Bool
has_no_fault type v = has_type type v && not (is_too_long v)

or_fault-none : (x y : Option ShapeFault) → is_none (or_fault x y) ≡ is_none x && is_none y
or_fault-none None y = refl
or_fault-none (Some fault) y = refl

list_fault-none : (types : List ColumnType) (values : List Value)
    → is_none (list_fault types values) ≡ (length values == length types) && is_none (values_fault 0 types values)
list_fault-none types values = search rules

-- whether a value has no fault in a column that may be there
abbrev fits_column : Option ColumnType → Value → Bool
fits_column None v = false
fits_column (Some type) v = has_no_fault type v

-- a value that fits its column in place of another one
values_fault-set : (col i : ℕ) (v : Value) (types : List ColumnType) (values : List Value) → T (fits_column (slice_get types i) v)
    → T (is_none (values_fault col types values)) → T (is_none (values_fault col types (set values i v)))
values_fault-set col i v [] values h g = tt
values_fault-set col i v (type ∷ types) [] h g = tt
values_fault-set col zero v (type ∷ types) (w ∷ values) h g = search rules
values_fault-set col (suc i) v (type ∷ types) (w ∷ values) h g =
    let split : T (is_none (value_fault type col w) && is_none (values_fault (suc col) types values)) =
    subst T (or_fault-none (value_fault type col w) (values_fault (suc col) types values)) g in
    subst T (sym (or_fault-none (value_fault type col w) (values_fault (suc col) types (set values i v))))
    (both (is_none (value_fault type col w)) _ (first (is_none (value_fault type col w)) _ split)
    (values_fault-set (suc col) i v types values h (second (is_none (value_fault type col w)) _ split)))

-- a cell that fits stands in a column of its type, outside the key
cell_fault-column : (type : Option ColumnType) (key_cols col : ℕ) (v : Value) → T (is_none (cell_fault_at type key_cols col v))
    → T (fits_column type v) × T (nat_le key_cols col)
cell_fault-column None key_cols col v h = absurd h
cell_fault-column (Some type) key_cols col v h = search rules

module _ (schema : Columns) where
  pub fits_schema-set : (row : Row) (col : ℕ) (v : Value) → T (cell_fits_schema schema col v) → T (fits_schema schema row)
      → T (fits_schema schema (set row col v))
  fits_schema-set row col v h g = grind (arith, common_steps, list_fault-none, length-set, both, first, values_fault-set, cell_fault-column, second)

  -- ---- cells

  abbrev cells_fit : Cells → Bool
  cells_fit cells = list_all (λ c. cell_fits_schema schema c.0 c.1) cells

  fits_schema-set_cells : (cells : Cells) (row : Row) → T (cells_fit cells) → T (fits_schema schema row)
      → T (fits_schema schema (set_cells cells row))
  fits_schema-set_cells [] row h g = g
  fits_schema-set_cells (c ∷ cells) row h g =
      fits_schema-set_cells cells (set row c.0 c.1) (second (cell_fits_schema schema c.0 c.1) _ h)
      (fits_schema-set row c.0 c.1 (first (cell_fits_schema schema c.0 c.1) _ h) g)

  cells_fit-put : (c : ℕ) (v : Value) (cells : Cells) → T (cell_fits_schema schema c v) → T (cells_fit cells)
      → T (cells_fit (put nat_cmp c v cells))
  cells_fit-put c v [] p h = both (cell_fits_schema schema c v) _ p tt
  cells_fit-put c v (d ∷ cells) p h = grind (arith, common_steps, cells_fit-put c v cells p (second (cell_fits_schema schema d.0 d.1) _ h), nat_cmp, both, second, first)

  cells_fit-over : (cells later : Cells) → T (cells_fit cells) → T (cells_fit later) → T (cells_fit (over_cells cells later))
  cells_fit-over cells [] h g = h
  cells_fit-over cells (c ∷ later) h g =
      cells_fit-over (put nat_cmp c.0 c.1 cells) later
      (cells_fit-put c.0 c.1 cells (first (cell_fits_schema schema c.0 c.1) _ g) h)
      (second (cell_fits_schema schema c.0 c.1) _ g)

  -- ---- one key

  composed_effect-fits : (f : Effect) (x : Option Effect) → T (effect_fits_schema schema f)
      → T (holds_at (effect_fits_schema schema) x) → T (holds_at (effect_fits_schema schema) (composed_effect f x))
  composed_effect-fits f None p q = p
  composed_effect-fits (Ins s) (Some (Ins r)) p q = q
  composed_effect-fits (Ins s) (Some Del) p q = p
  composed_effect-fits (Ins s) (Some (Mod d)) p q = q
  composed_effect-fits (Ins s) (Some (Rep r)) p q = q
  composed_effect-fits Del (Some (Ins r)) p q = tt
  composed_effect-fits Del (Some Del) p q = tt
  composed_effect-fits Del (Some (Mod d)) p q = tt
  composed_effect-fits Del (Some (Rep r)) p q = tt
  composed_effect-fits (Mod c) (Some (Ins r)) p q = fits_schema-set_cells c r p q
  composed_effect-fits (Mod c) (Some Del) p q = tt
  composed_effect-fits (Mod c) (Some (Mod d)) p q = cells_fit-over d c q p
  composed_effect-fits (Mod c) (Some (Rep r)) p q = fits_schema-set_cells c r p q
  composed_effect-fits (Rep s) (Some (Ins r)) p q = p
  composed_effect-fits (Rep s) (Some Del) p q = tt
  composed_effect-fits (Rep s) (Some (Mod d)) p q = p
  composed_effect-fits (Rep s) (Some (Rep r)) p q = p

  row_after-fits : (f : Effect) (old : Option Row) → T (effect_fits_schema schema f) → T (holds_at (fits_schema schema) old)
      → T (holds_at (fits_schema schema) (row_after f old))
  row_after-fits (Ins row) old p q = p
  row_after-fits Del old p q = tt
  row_after-fits (Mod cells) None p q = tt
  row_after-fits (Mod cells) (Some row) p q = fits_schema-set_cells cells row p q
  row_after-fits (Rep row) old p q = p

  maybe_composed : (g x : Option Effect) → T (holds_at (effect_fits_schema schema) g) → T (holds_at (effect_fits_schema schema) x)
      → T (holds_at (effect_fits_schema schema) (changed_by composed_effect g x))
  maybe_composed None x p q = q
  maybe_composed (Some f) x p q = composed_effect-fits f x p q

  maybe_after : (g : Option Effect) (old : Option Row) → T (holds_at (effect_fits_schema schema) g)
      → T (holds_at (fits_schema schema) old) → T (holds_at (fits_schema schema) (changed_by row_after g old))
  maybe_after None old p q = q
  maybe_after (Some f) old p q = row_after-fits f old p q

  -- ---- all keys

  abbrev pub all_effects_fit : Effects → Bool
  all_effects_fit effects = list_all (λ e. effect_fits_schema schema e.1) effects

  abbrev pub all_rows_fit : Table → Bool
  all_rows_fit t = list_all (λ e. fits_schema schema e.1) t

  abbrev effect_at : (effects : Effects) → T (all_effects_fit effects) → (k : Key)
      → T (holds_at (effect_fits_schema schema) (find key_cmp k effects))
  effect_at effects h k = each_at key_cmp key_cmp_total key_cmp-IsAntisymmetric (λ j f. effect_fits_schema schema f) effects h k

  pub composed_effects-fit : (x f : Effects) → T (is_sorted key_cmp x) → T (is_sorted key_cmp f) → T (all_effects_fit x)
      → T (all_effects_fit f) → T (all_effects_fit (composed_effects x f))
  composed_effects-fit x f sx sf hx hf =
      each_from key_cmp key_cmp_total key_cmp-IsAntisymmetric (λ j g. effect_fits_schema schema g) (composed_effects x f)
      (sorted-composed_effects x f sx)
      (λ k. subst (λ g. T (holds_at (effect_fits_schema schema) g)) (sym (effect_at-composed_effects x f k sf))
      (maybe_composed (find key_cmp k f) (find key_cmp k x) (effect_at f hf k) (effect_at x hx k)))

  pub table_with-fits : (t : Table) (x : Effects) → T (is_sorted key_cmp t) → T (is_sorted key_cmp x) → T (all_rows_fit t)
      → T (all_effects_fit x) → T (all_rows_fit (table_with t x))
  table_with-fits t x st sx ht hx =
      each_from key_cmp key_cmp_total key_cmp-IsAntisymmetric (λ j row. fits_schema schema row) (table_with t x) (sorted-table_with t x st)
      (λ k. subst (λ old. T (holds_at (fits_schema schema) old)) (sym (row_at-table_with t x k sx))
      (maybe_after (find key_cmp k x) (row_at t k) (effect_at x hx k)
      (each_at key_cmp key_cmp_total key_cmp-IsAntisymmetric (λ j row. fits_schema schema row) t ht k)))

  -- ---- a write alone

  pub effect_of_write-fits : (write : Write) → T (write_fits_schema schema write)
      → T (all_effects_fit ((key_of_write schema.key_cols write, effect_of_write write) ∷ []))
  effect_of_write-fits (Insert row) h = both (fits_schema schema row) _ h tt
  effect_of_write-fits (Delete key) h = tt
  effect_of_write-fits (Set key col v) h = search rules

  -- a write that fits the schema sets no key column
  pub sets_no_key-fits : (write : Write) → T (write_fits_schema schema write) → T (sets_no_key schema.key_cols write)
  sets_no_key-fits (Insert row) h = tt
  sets_no_key-fits (Delete key) h = tt
  sets_no_key-fits (Set key col v) h = search rules
