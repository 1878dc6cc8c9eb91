-- What the lower layers of a version make.
use Rattle.std.proofs.Common.{◌≡◌, ℕ, List, [], refl, sym, ap, ◌∙◌, subst, arith}
use Rattle.std.specs.Bool.{passes}
use Rattle.values.specs.Shape.{Columns}
use Rattle.values.specs.declared.row.Row.{Row}
use Rattle.model.specs.Table.{Table, rows_of, table_of, is_keyed_table, IsTable}
use Rattle.model.specs.Effects.{table_with}
use Rattle.model.specs.Merging.{merged_rows}
use Rattle.model.proofs.CallerLemmas.{leaves, rows_of-table_of, table_of-rows_of}
use Rattle.delta.specs.Tree.{Tree}
use Rattle.stable.specs.Stable.{Stable, IsStable, table_in}
use Rattle.merge.specs.Image.{IsLayer, AreStacked, stack_of, stack_below, image_rows, image_table}
use Rattle.merge.proofs.CallerLemmas.{layer_rows, merged_rows-nothing}
use Rattle.txn.specs.Version.{Lower, lower_rows, lower_table, AreLower, alone, version_of, version_at, empty_tree}
use Rattle.std.proofs.lemmas.Grind.{common_steps}

-- ---- no entries

-- a tree with no entries is a layer over any table
abbrev pub no_layer : (schema : Columns) (t : Table) → IsTable schema t → IsLayer schema t (empty_tree schema.key_cols)
no_layer schema t h = record {
  key_cols = refl;
  effects = [];
  over = record { table = h; effects_are = record { keyed = refl; fitting = refl }; fit = refl };
  entries = refl;
}

-- ---- a stable table alone

-- a stable table and two trees with no entries are lawful layers
pub are_alone : (s : Stable) → IsStable s → AreLower (alone s)
are_alone s h = record {
  lower = no_layer s.schema (table_in s) h.table;
  middle = no_layer s.schema (table_in s) h.table;
}

-- and its version is that of its rows
pub version_of-alone : (s : Stable) (number : ℕ) → version_of (alone s) number ≡ version_at s number
version_of-alone s number = grind (arith, common_steps, merged_rows-nothing)

-- with no tree on top the image is the table below
pub image_table-below : (l : Lower) → image_table (stack_below l.stable l.read l.write) ≡ lower_table l
image_table-below l = ap (table_of l.stable.schema.key_cols) (merged_rows-nothing (lower_rows l))

-- ---- the table under both trees

module _ (l : Lower) (h : AreLower l) where
  abbrev pub effects_table : Table
  effects_table = table_with (table_with (table_in l.stable) h.lower.effects) h.middle.effects

  lower_rows_is : lower_rows l ≡ rows_of effects_table
  lower_rows_is =
      layer_rows l.stable.schema (table_with (table_in l.stable) h.lower.effects) l.write h.middle
      (merged_rows l.stable.rows l.read.entries)
      (layer_rows l.stable.schema (table_in l.stable) l.read h.lower l.stable.rows
      (sym (rows_of-table_of l.stable.schema.key_cols l.stable.rows)))

  effects_IsTable : IsTable l.stable.schema effects_table
  effects_IsTable = leaves l.stable.schema (table_with (table_in l.stable) h.lower.effects) h.middle.effects h.middle.over

  -- the table that the layers show is the stable one with both trees' effects
  pub lower_table_is : lower_table l ≡ effects_table
  lower_table_is = grind (arith, common_steps, lower_rows_is, table_of-rows_of, effects_IsTable)

  pub lower_IsTable : IsTable l.stable.schema (lower_table l)
  lower_IsTable = subst (IsTable l.stable.schema) (sym lower_table_is) effects_IsTable

  -- a tree over that table is stacked on them
  pub stacked : (trans : Tree) → IsLayer l.stable.schema (lower_table l) trans → AreStacked l.stable l.read l.write trans
  stacked trans k = record {
    lower = h.lower;
    middle = h.middle;
    upper = subst (λ (t : Table). IsLayer l.stable.schema t trans) lower_table_is k;
  }

-- the rows with a tree on top
pub layered_rows : (l : Lower) (trans : Tree)
    → image_rows (stack_of l.stable l.read l.write trans) ≡ merged_rows (rows_of (lower_table l)) trans.entries
layered_rows l trans =
    ap (λ (rows : List Row). merged_rows rows trans.entries) (sym (rows_of-table_of l.stable.schema.key_cols (lower_rows l)))
