-- No write takes the image past the row limit.
use Rattle.std.proofs.Common.{◌≡◌, ℕ, ◌+◌, ◌≤◌, Bool, true, false, cond, T, Option, Some, None, is_some, option_map, [], ◌∷◌, length, refl, sym, ap, ◌∙◌, subst, arith, rules}
use Rattle.std.specs.Bool.{passes}
use Rattle.std.specs.FinMap.Entries.{length-put}
use Rattle.std.proofs.lemmas.List.Sums.{length-filter, count_by-le-length}
use Rattle.values.specs.Orders.{key_cmp, key_cmp_total}
use Rattle.values.specs.Shape.{Columns, key_of}
use Rattle.values.specs.declared.row.Row.{Row}
use Rattle.values.specs.declared.row.Key.{Key}
use Rattle.model.specs.declared.write.Write.{Write}
use Rattle.model.specs.declared.write.Write.TheVariants.{Insert, Delete, Set}
use Rattle.model.specs.Maps.{is_sorted, without, store, alter}
use Rattle.model.specs.Table.{Table, row_at, is_keyed_table}
use Rattle.model.specs.Effects.{set_cells, row_after, table_with, are_keyed_effects, all_fit, fits}
use Rattle.model.specs.Writes.{key_of_write, effect_of_write, reply_where, reply_to, is_done}
use Rattle.model.specs.Composition.{composed_effect}
use Rattle.model.specs.Laws.{WriteKeepsLimit}
use Rattle.model.proofs.MapsLemmas.{both}
use Rattle.model.proofs.CompositionLemmas.{Follows, sorted-table_with, table_with-composed_effects}
use Rattle.model.proofs.WritesLemmas.{follows, done_fits}

-- a table without a key has no more rows
length-without-le : (key : Key) (t : Table) → length (without key_cmp key t) ≤ length t
length-without-le key t = omega (arith, length-filter, count_by-le-length)

module _ (limit : ℕ) where
  -- an insert that is done adds a row where there is room for one
  insert_within : (found : Option Row) (n : ℕ) (row : Row) → T (is_done (reply_where limit (is_some found) n (Insert row)))
      → cond (is_some found) n (n + 1) ≤ limit
  insert_within (Some old) n row done = absurd done
  insert_within None n row done = search rules

  -- one write that is done, in a table within the limit
  alter-within : (key_cols : ℕ) (image : Table) (write : Write) → T (is_sorted key_cmp image)
      → T (is_done (reply_where limit (is_some (row_at image (key_of_write key_cols write))) (length image) write))
      → length image ≤ limit
      → length (alter key_cmp (key_of_write key_cols write) (row_after (effect_of_write write)) image) ≤ limit
  alter-within key_cols image (Insert row) h done few =
      let grown = length-put key_cmp key_cmp_total (key_of key_cols row) row image h in
      let within = insert_within (row_at image (key_of key_cols row)) (length image) row done in
      subst (λ n. n ≤ limit) (sym grown) within
  alter-within key_cols image (Delete key) h done few = omega (arith, few, length-without-le key image)
  alter-within key_cols image (Set key col value) h done few =
      by_row (row_at image key) refl
    where
      -- by the row that stands there
      by_row : (found : Option Row) → row_at image key ≡ found
          → length (store key_cmp key (option_map (set_cells ((col, value) ∷ [])) found) image) ≤ limit
      by_row None is = omega (arith, few, length-without-le key image)
      by_row (Some row) is =
          let same =
          length-put key_cmp key_cmp_total key (set_cells ((col, value) ∷ []) row) image h
          ∙ ap (λ (o : Option Row). cond (is_some o) (length image) (length image + 1)) is in
          subst (λ n. n ≤ limit) (sym same) few

module _ (schema : Columns) where
  -- a write leaves no more rows than the limit, if there were none more
  pub length-effects_after : WriteKeepsLimit schema
  length-effects_after limit t x write h few =
      let key_cols = schema.key_cols in
      let image : Table = table_with t x in
      let key = key_of_write key_cols write in
      let done : Bool = is_done (reply_to key_cols limit t x write) in
      elim done as
      (λ b. done ≡ b → length (table_with t (cond b (alter key_cmp key (composed_effect (effect_of_write write)) x) x)) ≤ limit) [
        | true ↦ λ is. one_more (passes done is)
        | false ↦ λ is. few
      ] refl
    where
      -- the table stands under its keys
      table_keyed : T (is_keyed_table schema.key_cols t)
      table_keyed = passes (is_keyed_table schema.key_cols t) h.table.keyed

      -- the effects stand under theirs
      effects_keyed : T (are_keyed_effects schema.key_cols x)
      effects_keyed = passes (are_keyed_effects schema.key_cols x) h.effects_are.keyed

      -- and fit the table
      effects_fit : T (all_fit t x)
      effects_fit = passes (all_fit t x) h.fit

      -- a write that is done changes the image at its key alone
      one_more : T (is_done (reply_to schema.key_cols limit t x write))
          → length (table_with t (alter key_cmp (key_of_write schema.key_cols write) (composed_effect (effect_of_write write)) x))
          ≤ limit
      one_more done =
          let key_cols = schema.key_cols in
          let image = table_with t x in
          let key = key_of_write key_cols write in
          let x_alone = follows key_cols t x [] table_keyed effects_keyed effects_fit tt tt in
          let in_turn : Follows t x ((key, effect_of_write write) ∷ []) = record {
            table_sorted = x_alone.table_sorted;
            x_sorted = x_alone.x_sorted;
            x_ascends = x_alone.x_ascends;
            x_fits = x_alone.x_fits;
            f_sorted = tt;
            f_fits =
                both (fits (row_at image key) (effect_of_write write)) _
                (done_fits key_cols limit t x table_keyed effects_keyed effects_fit (row_at image key) (length image) write done)
                tt;
          } in
          subst (λ table. length table ≤ limit) (sym (table_with-composed_effects t x ((key, effect_of_write write) ∷ []) in_turn))
          (alter-within limit key_cols image write (sorted-table_with t x x_alone.table_sorted) done few)
