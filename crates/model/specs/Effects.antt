-- What a transaction does to a table, key by key.
use Rattle.std.specs.Prelude.{ℕ, Bool, true, false, ◌&&◌, nat_le, IsTrue, Option, Some, None, is_some, is_none, option_map, List, [], ◌∷◌, slice_set}
use Rattle.std.specs.Ordering.{eq_by_cmp, nat_cmp}
use Rattle.std.specs.List.{list_all}
use Rattle.values.specs.Orders.{key_cmp}
use Rattle.values.specs.Shape.{Columns, key_of, fits_schema, cell_fits_schema}
use Rattle.values.specs.declared.row.Row.{Row}
use Rattle.values.specs.declared.row.Key.{Key}
use Rattle.values.specs.declared.value.Value.{Value}
use Rattle.model.specs.declared.effect.Effect.{Effect}
use Rattle.model.specs.declared.effect.Effect.TheVariants.{Ins, Del, Mod, Rep}
use Rattle.model.specs.Maps.{is_sorted, alter_all}
use Rattle.model.specs.Table.{Table, row_at, IsTable}

-- ---- one key

-- new values of some columns, in ascending column
abbrev pub Cells : Type 0
Cells = List (ℕ × Value)

abbrev pub has_cells : Cells → Bool
has_cells [] = false
has_cells (c ∷ cells) = true

-- the row with these cells
abbrev pub set_cells : Cells → Row → Row
set_cells [] row = row
set_cells (c ∷ cells) row = set_cells cells (slice_set row c.0 c.1)

-- whether the effect can be had at a key where this stands: an insert where nothing does, another where a row does
abbrev pub fits : Option Row → Effect → Bool
fits old (Ins row) = is_none old
fits old Del = is_some old
fits old (Mod cells) = is_some old
fits old (Rep row) = is_some old

-- what stands at the key after the effect
abbrev pub row_after : Effect → Option Row → Option Row
row_after (Ins row) old = Some row
row_after Del old = None
row_after (Mod cells) old = option_map (set_cells cells) old
row_after (Rep row) old = Some row

-- whether the effect may stand under the key: its row has that key, its cells are some, and none of them in the key
abbrev pub is_keyed_effect : ℕ → Key → Effect → Bool
is_keyed_effect key_cols key (Ins row) = eq_by_cmp key_cmp key (key_of key_cols row)
is_keyed_effect key_cols key Del = true
is_keyed_effect key_cols key (Mod cells) = has_cells cells && (is_sorted nat_cmp cells && list_all (λ c. nat_le key_cols c.0) cells)
is_keyed_effect key_cols key (Rep row) = eq_by_cmp key_cmp key (key_of key_cols row)

-- whether its row, or its cells, fit the schema
abbrev pub effect_fits_schema : Columns → Effect → Bool
effect_fits_schema schema (Ins row) = fits_schema schema row
effect_fits_schema schema Del = true
effect_fits_schema schema (Mod cells) = list_all (λ c. cell_fits_schema schema c.0 c.1) cells
effect_fits_schema schema (Rep row) = fits_schema schema row

-- ---- all keys

-- the effects of a transaction, in ascending key
abbrev pub Effects : Type 0
Effects = List (Key × Effect)

abbrev pub are_keyed_effects : ℕ → Effects → Bool
are_keyed_effects key_cols effects = is_sorted key_cmp effects && list_all (λ e. is_keyed_effect key_cols e.0 e.1) effects

-- effects under a schema
pub record AreEffects (schema : Columns) (effects : Effects) : Type 0 where
  pub keyed : IsTrue (are_keyed_effects schema.key_cols effects)
  pub fitting : IsTrue (list_all (λ e. effect_fits_schema schema e.1) effects)

-- whether each effect fits its key in the table
abbrev pub all_fit : Table → Effects → Bool
all_fit t effects = list_all (λ e. fits (row_at t e.0) e.1) effects

abbrev pub AllFit : Table → Effects → Type 0
AllFit t effects = IsTrue (all_fit t effects)

-- the table changed key by key
abbrev pub table_with : Table → Effects → Table
table_with t effects = alter_all key_cmp row_after effects t

-- a table, and effects that fit it
pub record AreOver (schema : Columns) (t : Table) (effects : Effects) : Type 0 where
  pub table : IsTable schema t
  pub effects_are : AreEffects schema effects
  pub fit : AllFit t effects
