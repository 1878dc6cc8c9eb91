-- The trees of writes over a table, as tests make them.
use Rattle.std.proofs.Common.{◌≡◌, ◌∙◌, ℕ, ◌≤◌, ◌<◌, ◌^◌, true, [], List, length, refl, sym, ap, subst, arith}
use Rattle.std.specs.List.{list_all}
use Rattle.std.proofs.lemmas.List.{length-map}
use Rattle.values.specs.Shape.{Columns, IsSchema}
use Rattle.model.specs.declared.entry.Entry.{Entry}
use Rattle.model.specs.declared.write.Write.{Write}
use Rattle.model.specs.Table.{Table, IsTable}
use Rattle.model.specs.Effects.{Effects, AreOver, table_with}
use Rattle.model.specs.Entries.{canonical_entries, IsLawful}
use Rattle.model.specs.Places.{insert_count}
use Rattle.model.specs.Writes.{effects_after_all, write_fits_schema}
use Rattle.model.proofs.CallerLemmas.{all_keep, ordered}
use Rattle.delta.specs.Tree.{Tree}
use Rattle.delta.proofs.CallerLemmas.{counts-le}
use Rattle.stable.specs.Stable.{Stable, table_in}
use Rattle.merge.specs.Image.{IsLayer}
use Rattle.txn.specs.Version.{AreLower}
use Rattle.layers.specs.Over.{IsTreeOf, IsSmall, AreConsecutive, AreAligned}

module _ (schema : Columns) (t : Table) (x : Effects) where
  -- the entries of effects over a table are their tree
  pub is_tree : AreOver schema t x → (entries : List Entry) (key_cols : ℕ) (tree : Tree) → key_cols ≡ schema.key_cols
      → entries ≡ canonical_entries t x → length entries < 1000000 → tree ≡ record { key_cols = key_cols; entries = entries }
      → IsTreeOf schema t x tree
  is_tree over entries key_cols tree keys is few made = record {
    over = over;
    tree_is = made ∙ (λ i. record { key_cols = keys i; entries = is i });
    few = omega (arith, few, counts-le entries, ap (λ (r : Tree). insert_count r.entries) made);
  }

-- a tree over the table that another leaves
pub are_consecutive : (schema : Columns) (t after : Table) (x f : Effects) (lower upper : Tree) → IsSmall schema t
    → IsTreeOf schema t x lower → after ≡ table_with t x → IsTreeOf schema after f upper → AreConsecutive lower upper
are_consecutive schema t after x f lower upper small below is above = record {
  schema = schema;
  t = t;
  x = x;
  f = f;
  small = small;
  below = below;
  above = subst (λ s. IsTreeOf schema s f upper) is above;
}

pub are_aligned : (schema : Columns) (t : Table) (x y : Effects) (one two : Tree) → IsSmall schema t → IsTreeOf schema t x one
    → IsTreeOf schema t y two → AreAligned one two
are_aligned schema t x y one two small first second = record {
  schema = schema;
  t = t;
  x = x;
  y = y;
  small = small;
  x_is = first;
  y_is = second;
}

-- a table with no rows
pub no_rows : (schema : Columns) (t : Table) → t ≡ [] → IsTable schema t
no_rows schema t is = let empty : IsTable schema [] = record { keyed = refl; fitting = refl } in subst (IsTable schema) (sym is) empty

-- a layer with few entries is the tree of its effects
tree_of_layer : (schema : Columns) (t : Table) (tree : Tree) (l : IsLayer schema t tree) → length tree.entries < 1000000
    → IsTreeOf schema t l.effects tree
tree_of_layer schema t tree l short = record {
  over = l.over;
  tree_is = λ i. record { key_cols = l.key_cols i; entries = l.entries i };
  few = omega (arith, short, counts-le tree.entries);
}

small_table : (s : Stable) → IsSchema s.schema → length s.rows < 1000000 → IsSmall s.schema (table_in s)
small_table s lawful few =
    let same : length (table_in s) ≡ length s.rows = length-map _ _ in
    record { lawful = lawful; rows = omega (arith, few, same) }

-- layers of one stable table, with few rows and entries
module _ (s : Stable) (lawful : IsSchema s.schema) (rows : length s.rows < 1000000) where
  pub aligned_layers : (x y : Tree) → IsLayer s.schema (table_in s) x → IsLayer s.schema (table_in s) y
      → length x.entries < 1000000 → length y.entries < 1000000 → AreAligned x y
  aligned_layers x y l m one other =
      are_aligned s.schema (table_in s) l.effects m.effects x y (small_table s lawful rows)
      (tree_of_layer s.schema (table_in s) x l one) (tree_of_layer s.schema (table_in s) y m other)

  -- and one over the image of another
  pub stacked_layers : (lower upper : Tree) (h : AreLower (record { stable = s; read = lower; write = upper }))
      → length lower.entries < 1000000 → length upper.entries < 1000000 → AreConsecutive lower upper
  stacked_layers lower upper h one other =
      let after = table_with (table_in s) h.lower.effects in
      are_consecutive s.schema (table_in s) after h.lower.effects h.middle.effects lower upper (small_table s lawful rows)
      (tree_of_layer s.schema (table_in s) lower h.lower one) refl (tree_of_layer s.schema after upper h.middle other)
