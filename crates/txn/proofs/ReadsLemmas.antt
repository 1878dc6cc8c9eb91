-- What a transaction reads is what its layers show.
use Rattle.std.proofs.Common.{◌≡◌, ℕ, Bool, not, ◌&&◌, Option, Some, None, is_some, refl, sym, ap, ◌∙◌, subst}
use Rattle.std.specs.Prelude.{◌||◌, IsTrue, IsNone, slice_get}
use Rattle.std.specs.Bool.{passes}
use Rattle.std.proofs.lemmas.Float.{T_from_true}
use Rattle.values.specs.Orders.{key_cmp}
use Rattle.values.specs.declared.row.Row.{Row}
use Rattle.values.specs.declared.row.Key.{Key}
use Rattle.model.specs.Maps.{find}
use Rattle.model.specs.Table.{rows_of, table_of, row_at, rank, is_keyed_table, IsTable}
use Rattle.model.specs.Merging.{merged_rows}
use Rattle.model.proofs.CallerLemmas.{leaves, table_of-rows_of}
use Rattle.delta.specs.BySid.{base_change, is_deleted}
use Rattle.delta.specs.Lookups.{inserted_row}
use Rattle.delta.specs.Laws.{row_inserted}
use Rattle.delta.specs.Search.{insert_cmp, past_cmp, stands_before, IsSplit}
use Rattle.delta.specs.declared.by_sid.BaseChange.{BaseChange}
use Rattle.delta.specs.declared.by_sid.BaseChange.TheVariants.{Kept}
use Rattle.delta.proofs.CallerLemmas.{past-kept}
use Rattle.merge.specs.Image.{IsLayer}
use Rattle.merge.proofs.CallerLemmas.{layer_there, merges}
use Rattle.txn.specs.Txn.{Transaction, IsTransaction, IsFound, effects_of, image_of, entries_of, tree_of}
use Rattle.txn.proofs.TxnLemmas.{finds, over}

nothing_in : (row : Option Row) → IsNone row → row ≡ None
nothing_in None h = refl
nothing_in (Some row) h = cc

module _ (txn : Transaction) (h : IsTransaction txn) where
  -- a transaction's tree is a layer over its table
  pub is_layer : IsLayer txn.schema txn.table (tree_of txn)
  is_layer = record { key_cols = refl; effects = effects_of txn; over = over txn h; entries = refl }

  pub image_IsTable : IsTable txn.schema (image_of txn)
  image_IsTable = leaves txn.schema txn.table (effects_of txn) (over txn h)

  pub image_rows_is : merged_rows (rows_of txn.table) (entries_of txn) ≡ rows_of (image_of txn)
  image_rows_is = merges txn.schema txn.table (effects_of txn) (over txn h)

  pub image_table_is : table_of txn.schema.key_cols (rows_of (image_of txn)) ≡ image_of txn
  image_table_is = table_of-rows_of txn.schema.key_cols (image_of txn) (passes (is_keyed_table txn.schema.key_cols (image_of txn))
      image_IsTable.keyed)

  -- what a key's place in its tree tells
  pub found : (key : Key) (sid n : ℕ) (in_base inserted : Bool) (made : BaseChange) → sid ≡ rank key txn.table
      → IsSplit (stands_before (insert_cmp txn.schema.key_cols key) sid) (entries_of txn) n
      → in_base ≡ is_some (row_at txn.table key) → inserted ≡ is_some (inserted_row txn.schema.key_cols sid key (entries_of txn))
      → made ≡ base_change sid (slice_get (entries_of txn) n)
      → IsFound txn key sid (inserted || (in_base && not (is_deleted made))) inserted
  unfolding is_layer
  found key sid n in_base inserted made sid_is split in_base_is inserted_is made_is = record {
    sid_is = sid_is;
    there_is = layer_there txn.schema txn.table (tree_of txn) is_layer key sid n in_base inserted made sid_is split in_base_is inserted_is
        made_is;
    inserted_is =
        inserted_is ∙ ap (λ m. is_some (inserted_row txn.schema.key_cols m key (entries_of txn))) sid_is
        ∙ ap is_some (finds txn h key).insert;
  }

  -- where its row is of the snapshot and has no change, no entry stands at the key's SID from its place on
  pub ends_there : (key : Key) (sid n : ℕ) (in_base : Bool) (row : Option Row) (made : BaseChange) → sid ≡ rank key txn.table
      → IsSplit (stands_before (insert_cmp txn.schema.key_cols key) sid) (entries_of txn) n → in_base ≡ is_some (row_at txn.table key)
      → row ≡ inserted_row txn.schema.key_cols sid key (entries_of txn) → made ≡ base_change sid (slice_get (entries_of txn) n)
      → IsTrue in_base → IsNone row → made ≡ Kept → IsSplit (stands_before past_cmp sid) (entries_of txn) n
  ends_there key sid n in_base row made sid_is split in_base_is row_is made_is below none kept =
      let es = entries_of txn in
      let there = T_from_true (is_some (row_at txn.table key)) (sym in_base_is ∙ below) in
      let own : row_inserted (find key_cmp key (effects_of txn)) ≡ None =
      sym (finds txn h key).insert ∙ ap (λ m. inserted_row txn.schema.key_cols m key es) (sym sid_is) ∙ sym row_is ∙ nothing_in row none in
      let at = subst (λ m. IsSplit (stands_before (insert_cmp txn.schema.key_cols key) m) es n) sid_is split in
      let made_here = ap (λ m. base_change m (slice_get es n)) (sym sid_is) ∙ sym made_is ∙ kept in
      subst (λ m. IsSplit (stands_before past_cmp m) es n) (sym sid_is)
      (past-kept txn.schema txn.table (effects_of txn) (over txn h) key n at there own made_here)
