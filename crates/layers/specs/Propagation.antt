-- A tree folded into the tree below it, entry by entry.
use Rattle.std.specs.Prelude.{◌≡◌, ℕ, ◌≤◌, ◌^◌, Bool, true, IsTrue, [], ◌∷◌, length}
use Rattle.values.specs.Orders.{key_cmp}
use Rattle.values.specs.Shape.{Columns, key_of, cell_fits_schema}
use Rattle.values.specs.declared.row.Key.{Key}
use Rattle.values.specs.declared.limits.TheConstants.{MAX_ROWS}
use Rattle.model.specs.declared.entry.Entry.{Entry}
use Rattle.model.specs.declared.entry.Change.{Change}
use Rattle.model.specs.declared.entry.Change.TheVariants.{Ins, Del, Mod}
use Rattle.model.specs.declared.effect.Effect.{Effect}
use Rattle.model.specs.declared.effect.Effect.TheVariants as effect
use Rattle.model.specs.Maps.{alter}
use Rattle.model.specs.Table.{Table, row_at, rank}
use Rattle.model.specs.Effects.{Effects, AreOver, fits, table_with}
use Rattle.model.specs.Composition.{composed_effect, composed_effects}
use Rattle.model.specs.Entries.{canonical_entries}
use Rattle.delta.specs.Tree.{Tree}
use Rattle.layers.specs.Over.{tree_of, AreConsecutive}

-- the tree of both trees' effects
abbrev pub composed_tree : (lower upper : Tree) → AreConsecutive lower upper → Tree
composed_tree lower upper w = tree_of w.schema w.t (composed_effects w.x w.f)

-- ---- one entry

-- what an entry's change does to its key
abbrev pub effect_of_change : Change → Effect
effect_of_change (Ins row) = effect.Ins row
effect_of_change (Del key) = effect.Del
effect_of_change (Mod col value) = effect.Mod ((col, value) ∷ [])

-- the key is that of the change's row
abbrev pub IsOfKey : ℕ → Key → Change → Type 0
IsOfKey key_cols key (Ins row) = key_of key_cols row ≡ key
IsOfKey key_cols key (Del gone) = gone ≡ key
IsOfKey key_cols key (Mod col value) = Unit {0}

-- whether the cell of a modify fits the schema
abbrev pub cell_fits : Columns → Change → Bool
cell_fits schema (Ins row) = true
cell_fits schema (Del key) = true
cell_fits schema (Mod col value) = cell_fits_schema schema col value

-- the effects with that of one change more
abbrev pub effects_with : Effects → Key → Change → Effects
effects_with x key change = alter key_cmp key (composed_effect (effect_of_change change)) x

-- the tree is that of effects over a table, and the entry stands over its image
pub record IsNext (tree : Tree) (entry : Entry) : Type 0 where
  pub schema : Columns
  pub t : Table
  pub x : Effects
  pub key : Key
  pub over : AreOver schema t x
  pub tree_is : tree ≡ tree_of schema t x
  pub own : IsOfKey schema.key_cols key entry.change
  pub cell : IsTrue (cell_fits schema entry.change)
  pub fit : IsTrue (fits (row_at (table_with t x) key) (effect_of_change entry.change))
  pub ranked : entry.sid ≡ rank key (table_with t x)
  pub rows : length t ≤ MAX_ROWS
  pub image : length (table_with t x) ≤ 2 ^ 40
  pub room : length (canonical_entries t (effects_with x key entry.change)) ≤ 2 ^ 40

-- the tree with the entry folded into it
abbrev pub next_tree : (tree : Tree) (entry : Entry) → IsNext tree entry → Tree
next_tree tree entry w = tree_of w.schema w.t (effects_with w.x w.key entry.change)
