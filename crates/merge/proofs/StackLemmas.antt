-- The layers of a stack, as entries over rows and as effects on tables.
use Rattle.std.proofs.Common.{◌≡◌, ℕ, suc, ◌<◌, ◌≤◌, Bool, true, false, cond, ◌&&◌, T, is_some, Some, None, List, [], ◌∷◌, ◌++◌, map, length, Ordering, Less, Equal, Greater, is_lt, is_eq, refl, sym, ap, ◌∙◌, subst, arith}
use Rattle.std.specs.Prelude.{nat_lt, nat_le}
use Rattle.std.specs.Bool.{passes}
use Rattle.std.specs.List.{list_all}
use Rattle.std.proofs.lemmas.List.{length-map}
use Rattle.std.proofs.lemmas.Bool.Decides.{nat_tests}
use Rattle.values.specs.Orders.{key_cmp, key_cmp_total}
use Rattle.values.specs.Shape.{Columns}
use Rattle.values.specs.declared.row.Row.{Row}
use Rattle.values.specs.declared.row.Key.{Key}
use Rattle.model.specs.declared.entry.Entry.{Entry}
use Rattle.model.specs.declared.entry.Change.TheVariants.{Mod}
use Rattle.model.specs.declared.effect.Effect.{Effect}
use Rattle.model.specs.declared.effect.Effect.TheVariants as effect
use Rattle.model.specs.Table.{Table, rows_of, row_at, rank, table_of, is_keyed_table, IsTable}
use Rattle.model.specs.Effects.{Cells, Effects, AreOver, fits, all_fit, table_with}
use Rattle.model.specs.Entries.{entry_at, entries_of, canonical_entries, IsLawful}
use Rattle.model.specs.Merging.{merged_rows}
use Rattle.model.proofs.CallerLemmas.{both, first, second, is_below, one_if, rank-cons, rank-le-length, ordered-canonical_entries, rows_of-table_of, table_of-rows_of, merged_rows-canonical_entries, merged_rows_from_nothing, leaves}
use Rattle.stable.specs.Stable.{Stable, table_in}
use Rattle.delta.specs.Tree.{Tree}
use Rattle.merge.specs.Image.{Stack, stack_of, stack_below, tree_over, read_rows, write_rows, image_rows, image_table, IsLayer, AreBothStacked, AreStacked}
use Rattle.merge.specs.Level.{stands_within, IsOver}
use Rattle.std.proofs.lemmas.Grind.{common_steps}

-- the layers of a stack, each in order over the rows below it
pub record AreLevels (s : Stack) : Type 0 where
  pub lower : IsOver s.schema.key_cols 0 (length s.rows) s.read
  pub middle : IsOver s.schema.key_cols 0 (length (read_rows s)) s.write
  pub upper : IsOver s.schema.key_cols 0 (length (write_rows s)) s.trans

of_le : (n m : ℕ) → n ≤ m → T (nat_le n m)
of_le n m h = grind (arith, nat_tests)

of_lt : (n m : ℕ) → n < m → T (nat_lt n m)
of_lt n m h = grind (arith, nat_tests)

-- a key that the table has is below its end
rank-there : (k : Key) (t : Table) → T (is_some (row_at t k)) → rank k t < length t
rank-there k [] h = absurd h
rank-there k (e ∷ t) h =
    elim (key_cmp k e.0) as
    (λ r. key_cmp k e.0 ≡ r → T (is_some (cond (is_eq r) (Some e.1) (row_at t k))) → rank k (e ∷ t) < suc (length t)) [
      | Less ↦ λ p g. omega (arith, rank-cons k e t, at_most (is_below e.0 k), rank-there k t g)
      | Equal ↦ λ p g. omega (arith, rank-cons k e t, ap (λ r. one_if (is_lt r)) (tie p), rank-le-length k t)
      | Greater ↦ λ p g. omega (arith, rank-cons k e t, at_most (is_below e.0 k), rank-there k t g)
    ] refl h
  where
    at_most : (b : Bool) → one_if b ≤ 1
    at_most true = omega arith
    at_most false = omega arith

    tie : key_cmp k e.0 ≡ Equal → key_cmp e.0 k ≡ Equal
    tie p = key_cmp_total.antisymm e.0 k ∙ ap (λ (r : Ordering). elim r [ Less ↦ Greater | Equal ↦ Equal | Greater ↦ Less ]) p

module _ (n end : ℕ) where
  base_within : (k : ℕ) → n ≤ k → k < end → T (nat_le n k && nat_lt k end)
  base_within k low high = both (nat_le n k) _ (of_le n k low) (of_lt k end high)

  cells_within : (k : ℕ) (cells : Cells) → n ≤ k → k < end → T (list_all (stands_within n end) (map (λ c. entry_at k (Mod c.0 c.1)) cells))
  cells_within k [] low high = tt
  cells_within k (c ∷ cells) low high =
      both (stands_within n end (entry_at k (Mod c.0 c.1))) _ (base_within k low high) (cells_within k cells low high)

  within_append : (es fs : List Entry) → T (list_all (stands_within n end) es) → T (list_all (stands_within n end) fs)
      → T (list_all (stands_within n end) (es ++ fs))
  within_append [] fs p q = q
  within_append (e ∷ es) fs p q = grind (arith, common_steps)

-- the entries of one effect stand within the table
entries_within : (t : Table) (k : Key) (f : Effect) → T (fits (row_at t k) f)
    → T (list_all (stands_within 0 (length t)) (entries_of (rank k t) k f))
entries_within t k (effect.Ins row) fit =
    let low : 0 ≤ rank k t = omega arith in
    both (nat_le 0 (rank k t) && nat_le (rank k t) (length t)) _
    (both (nat_le 0 (rank k t)) _ (of_le 0 (rank k t) low) (of_le (rank k t) (length t) (rank-le-length k t))) tt
entries_within t k effect.Del fit =
    let low : 0 ≤ rank k t = omega arith in
    both (nat_le 0 (rank k t) && nat_lt (rank k t) (length t)) _ (base_within 0 (length t) (rank k t) low (rank-there k t fit)) tt
entries_within t k (effect.Mod cells) fit =
    let low : 0 ≤ rank k t = omega arith in
    cells_within 0 (length t) (rank k t) cells low (rank-there k t fit)
entries_within t k (effect.Rep row) fit = grind (arith, common_steps, both, of_le, rank-le-length, base_within, rank-there)

canonical_within : (t : Table) (x : Effects) → T (all_fit t x) → T (list_all (stands_within 0 (length t)) (canonical_entries t x))
canonical_within t [] fit = tt
canonical_within t (e ∷ x) fit =
    grind (arith, common_steps, canonical_within t x (second (fits (row_at t e.0) e.1) _ fit), within_append, entries_within, first, second)

module _ (schema : Columns) where
  -- the entries of effects over a table stand in order over its rows
  pub over-canonical_entries : (t : Table) (x : Effects) → AreOver schema t x → IsOver schema.key_cols 0 (length t) (canonical_entries t x)
  over-canonical_entries t x h = grind (arith, common_steps, ordered-canonical_entries, canonical_within)

  -- they make of its rows those of the table after them
  pub merges : (t : Table) (x : Effects) → AreOver schema t x → merged_rows (rows_of t) (canonical_entries t x) ≡ rows_of (table_with t x)
  merges t x h = grind (arith, common_steps, merged_rows-canonical_entries, first)

  -- a layer over a table, over rows that are the table's
  module _ (t : Table) (tree : Tree) (h : IsLayer schema t tree) (rows : List Row) (same : rows ≡ rows_of t) where
    pub layer_over : IsOver schema.key_cols 0 (length rows) tree.entries
    layer_over =
        let count : length t ≡ length rows = sym (length-map t (λ e. e.1)) ∙ ap length (sym same) in
        subst (λ n. IsOver schema.key_cols 0 n tree.entries) count
        (subst (IsOver schema.key_cols 0 (length t)) (sym h.entries) (over-canonical_entries t h.effects h.over))

    -- the layer's entries make of those rows the rows of the table after its effects
    pub layer_rows : merged_rows rows tree.entries ≡ rows_of (table_with t h.effects)
    layer_rows = (λ i. merged_rows (same i) (h.entries i)) ∙ merges t h.effects h.over

module _ (stable : Stable) (read write trans : Tree) (h : AreStacked stable read write trans) where
  abbrev stack : Stack
  stack = stack_of stable read write trans

  pub stable_rows_is : stable.rows ≡ rows_of (table_in stable)
  stable_rows_is = sym (rows_of-table_of stable.schema.key_cols stable.rows)

  pub read_rows_is : read_rows stack ≡ rows_of (table_with (table_in stable) h.lower.effects)
  read_rows_is = layer_rows stable.schema (table_in stable) read h.lower stable.rows stable_rows_is

  pub write_rows_is : write_rows stack ≡ rows_of (table_with (table_with (table_in stable) h.lower.effects) h.middle.effects)
  write_rows_is = layer_rows stable.schema (table_with (table_in stable) h.lower.effects) write h.middle (read_rows stack) read_rows_is

  -- the layers are levels
  pub are_levels : AreLevels stack
  are_levels = record {
    lower = layer_over stable.schema (table_in stable) read h.lower stable.rows stable_rows_is;
    middle = layer_over stable.schema (table_with (table_in stable) h.lower.effects) write h.middle (read_rows stack) read_rows_is;
    upper =
        layer_over stable.schema (table_with (table_with (table_in stable) h.lower.effects) h.middle.effects) trans h.upper
        (write_rows stack) write_rows_is;
  }

  -- the rows of the image are those of the table after all effects
  pub image_rows_is :
      image_rows stack
      ≡ rows_of (table_with (table_with (table_with (table_in stable) h.lower.effects) h.middle.effects) h.upper.effects)
  image_rows_is =
      layer_rows stable.schema (table_with (table_with (table_in stable) h.lower.effects) h.middle.effects) trans h.upper
      (write_rows stack) write_rows_is

  -- and under their keys they are that table
  pub image_table_is :
      image_table stack ≡ table_with (table_with (table_with (table_in stable) h.lower.effects) h.middle.effects) h.upper.effects
  image_table_is =
      let t = table_with (table_with (table_with (table_in stable) h.lower.effects) h.middle.effects) h.upper.effects in
      let is =
      leaves stable.schema (table_with (table_with (table_in stable) h.lower.effects) h.middle.effects) h.upper.effects
      h.upper.over in
      ap (table_of stable.schema.key_cols) image_rows_is
      ∙ table_of-rows_of stable.schema.key_cols t (passes (is_keyed_table stable.schema.key_cols t) is.keyed)

  pub image_is_table : IsTable stable.schema (image_table stack)
  image_is_table =
      subst (IsTable stable.schema) (sym image_table_is)
      (leaves stable.schema (table_with (table_with (table_in stable) h.lower.effects) h.middle.effects) h.upper.effects h.upper.over)

-- rows that are a table's are a table under their keys
keyed_rows : (schema : Columns) (t : Table) (rows : List Row) → IsTable schema t → rows ≡ rows_of t
    → IsTable schema (table_of schema.key_cols rows)
keyed_rows schema t rows h is = grind (arith, common_steps, table_of-rows_of)

module _ (stable : Stable) (read write trans : Tree) (h : AreStacked stable read write trans) where
  pub stable_is_table : IsTable stable.schema (table_of stable.schema.key_cols stable.rows)
  stable_is_table = keyed_rows stable.schema (table_in stable) stable.rows h.lower.over.table (stable_rows_is stable read write trans h)

  pub read_is_table : IsTable stable.schema (table_of stable.schema.key_cols (read_rows (stack_of stable read write trans)))
  read_is_table =
      keyed_rows stable.schema (table_with (table_in stable) h.lower.effects) (read_rows (stack_of stable read write trans))
      h.middle.over.table (read_rows_is stable read write trans h)

  pub write_is_table : IsTable stable.schema (table_of stable.schema.key_cols (write_rows (stack_of stable read write trans)))
  write_is_table =
      keyed_rows stable.schema (table_with (table_with (table_in stable) h.lower.effects) h.middle.effects)
      (write_rows (stack_of stable read write trans)) h.upper.over.table (write_rows_is stable read write trans h)

-- ---- no tree on top

-- no entries leave the rows as they are
pub merged_rows-nothing : (rows : List Row) → merged_rows rows [] ≡ rows
merged_rows-nothing rows = merged_rows_from_nothing 0 rows

pub image_rows-none : (stable : Stable) (read write : Tree)
    → image_rows (stack_below stable read write) ≡ write_rows (stack_below stable read write)
image_rows-none stable read write = merged_rows-nothing (write_rows (stack_below stable read write))

pub nothing_lawful : (key_cols : ℕ) → IsLawful key_cols []
nothing_lawful key_cols = record { ordered = refl; placed = λ k d within. absurd (omega arith); counted = omega arith }

module _ (stable : Stable) (read write : Tree) (h : AreBothStacked stable read write) where
  abbrev pub under : Table
  under = table_with (table_with (table_in stable) h.lower.effects) h.middle.effects

  pub under_is_table : IsTable stable.schema under
  under_is_table = leaves stable.schema (table_with (table_in stable) h.lower.effects) h.middle.effects h.middle.over

  -- no entries are those of no effects
  abbrev pub none_stacked : AreStacked stable read write (tree_over stable.schema.key_cols None)
  none_stacked = record {
    lower = h.lower;
    middle = h.middle;
    upper = record {
      key_cols = refl;
      effects = [];
      over = record { table = under_is_table; effects_are = record { keyed = refl; fitting = refl }; fit = refl };
      entries = refl;
    };
  }

-- the image is then the table under the two lower layers
pub image_table-none : (stable : Stable) (read write : Tree) (h : AreBothStacked stable read write)
    → image_table (stack_below stable read write) ≡ table_with (table_with (table_in stable) h.lower.effects) h.middle.effects
image_table-none stable read write h =
    let t = table_with (table_with (table_in stable) h.lower.effects) h.middle.effects in
    ap (table_of stable.schema.key_cols) (image_rows-none stable read write
    ∙ write_rows_is stable read write (tree_over stable.schema.key_cols None) (none_stacked stable read write h))
    ∙ table_of-rows_of stable.schema.key_cols t
    (passes (is_keyed_table stable.schema.key_cols t) (under_is_table stable read write h).keyed)

-- no rank in a table is past the rows that it has
pub rank-few : (k : Key) (t : Table) (rows : List Row) → rows ≡ rows_of t → rank k t ≤ length rows
rank-few k t rows is = omega (arith, rank-le-length k t, length-map t (λ e. e.1), ap length is)
