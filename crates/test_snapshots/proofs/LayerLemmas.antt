-- The trees of writes over a table.
use Rattle.std.proofs.Common.{◌≡◌, ◌∙◌, ℕ, ◌≤◌, ◌<◌, ◌^◌, true, T, [], List, length, refl, sym, ap, subst, arith}
use Rattle.std.specs.Prelude.{IsTrue}
use Rattle.std.specs.List.{list_all}
use Rattle.values.specs.Shape.{Columns}
use Rattle.model.specs.declared.entry.Entry.{Entry}
use Rattle.model.specs.declared.write.Write.{Write}
use Rattle.model.specs.Table.{Table, IsTable, is_keyed_table, table_of}
use Rattle.values.specs.Orders.{key_cmp}
use Rattle.values.specs.declared.row.Row.{Row}
use Rattle.std.specs.Bool.{passes}
use Rattle.model.specs.Maps.{is_sorted}
use Rattle.model.specs.Effects.{Effects, AreOver, table_with}
use Rattle.model.proofs.CallerLemmas.{first, all_keep, canonical_entries-placed}
use Rattle.delta.specs.Tree.{Tree}
use Rattle.stable.specs.Stable.{Stable, IsStable, table_in}
use Rattle.merge.specs.Image.{IsLayer, AreStacked}
use Rattle.model.specs.Entries.{canonical_entries, IsLawful}
use Rattle.model.specs.Writes.{effects_after_all, write_fits_schema}
use Rattle.delta.proofs.CallerLemmas.{is_true}
use Rattle.merge.proofs.CallerLemmas.{over-canonical_entries}

module _ (schema : Columns) (t : Table) (x : Effects) where
  -- writes that fit the schema leave effects over the table
  pub over_writes : (writes : List Write) (limit key_cols : ℕ) (none : Effects) → IsTable schema t
      → list_all (write_fits_schema schema) writes ≡ true → key_cols ≡ schema.key_cols
      → x ≡ effects_after_all key_cols limit t none writes → none ≡ [] → AreOver schema t x
  over_writes writes limit key_cols none table fit keys is empty =
      let start : AreOver schema t [] = record { table = table; effects_are = record { keyed = refl; fitting = refl }; fit = refl } in
      subst (AreOver schema t) (sym (is ∙ (λ i. effects_after_all (keys i) limit t (empty i) writes)))
      (all_keep schema limit t [] writes start fit)

  -- their entries are lawful, where there aren't too many rows or entries
  pub lawful_layer : AreOver schema t x → (entries : List Entry) (key_cols : ℕ) → key_cols ≡ schema.key_cols
      → entries ≡ canonical_entries t x → length t < 2 ^ 32 → length entries ≤ 2 ^ 40 → IsLawful key_cols entries
  lawful_layer over entries key_cols keys is few short =
      let h = over-canonical_entries schema t x over in
      let placed = canonical_entries-placed t x in
      let whole : IsLawful schema.key_cols (canonical_entries t x) = record {
        ordered = is_true _ h.ordered;
        placed = λ i d lt. omega (arith, placed i d lt, few);
        counted = omega (arith, short, ap length is);
      } in
      subst (λ n. IsLawful n entries) (sym keys) (subst (IsLawful schema.key_cols) (sym is) whole)

-- a layer over an equal table
abbrev move_layer : (schema other : Columns) (t u : Table) (tree : Tree) → schema ≡ other → t ≡ u → IsLayer schema t tree
    → IsLayer other u tree
move_layer schema other t u tree s_is t_is l = record {
  key_cols = l.key_cols ∙ ap (λ (c : Columns). c.key_cols) s_is;
  effects = l.effects;
  over = subst (λ c. AreOver c u l.effects) s_is (subst (λ v. AreOver schema v l.effects) t_is l.over);
  entries = l.entries ∙ ap (λ v. canonical_entries v l.effects) t_is;
}

-- layers, each over the table after the one below, are stacked
pub are_stacked : (stable : Stable) (schema : Columns) (read write trans : Tree) (t u v : Table) → schema ≡ stable.schema
    → t ≡ table_in stable → (l : IsLayer schema t read) → u ≡ table_with t l.effects → (m : IsLayer schema u write)
    → v ≡ table_with u m.effects → IsLayer schema v trans → AreStacked stable read write trans
are_stacked stable schema read write trans t u v s_is t_is l u_is m v_is n =
    let u_there = u_is ∙ ap (λ w. table_with w l.effects) t_is in
    record {
      lower = move_layer schema stable.schema t (table_in stable) read s_is t_is l;
      middle = move_layer schema stable.schema u (table_with (table_in stable) l.effects) write s_is u_there m;
      upper =
          move_layer schema stable.schema v (table_with (table_with (table_in stable) l.effects) m.effects) trans s_is
          (v_is ∙ ap (λ w. table_with w m.effects) u_there) n;
    }

-- the rows of a stable table make the same table by key
pub same_table : (s : Stable) (key_cols : ℕ) (rows : List Row) (table : Table) → IsStable s → key_cols ≡ s.schema.key_cols
    → rows ≡ s.rows → (IsTrue (is_sorted key_cmp (table_of key_cols rows)) → table ≡ table_of key_cols rows) → table ≡ table_in s
same_table s key_cols rows table h keys same put =
    let is : table_of key_cols rows ≡ table_in s = λ i. table_of (keys i) (same i) in
    let sorted = first (is_sorted key_cmp (table_in s)) _ (passes (is_keyed_table s.schema.key_cols (table_in s)) h.table.keyed) in
    put (is_true _ (subst (λ t. T (is_sorted key_cmp t)) (sym is) sorted)) ∙ is
