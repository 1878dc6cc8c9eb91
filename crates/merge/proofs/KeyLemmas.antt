-- The rank of a key in the image of a layer.
use Rattle.std.proofs.Common.{◌≡◌, ℕ, take, ◌∙◌, subst}
use Rattle.values.specs.Shape.{Columns}
use Rattle.values.specs.declared.row.Key.{Key}
use Rattle.model.specs.Table.{Table, rank}
use Rattle.model.specs.Effects.{table_with}
use Rattle.model.specs.Entries.{canonical_entries}
use Rattle.model.specs.Places.{rid_of_insert}
use Rattle.delta.specs.Search.{insert_cmp, stands_before, IsSplit}
use Rattle.delta.specs.Tree.{Tree}
use Rattle.delta.proofs.CallerLemmas.{rank_is}
use Rattle.merge.specs.Image.{IsLayer}

-- ---- a layer

module _ (schema : Columns) (t : Table) (tree : Tree) (h : IsLayer schema t tree) (key : Key) (r : ℕ) (place : r ≡ rank key t) where
  pub layer_rank : (n rid : ℕ) → IsSplit (stands_before (insert_cmp tree.key_cols key) r) tree.entries n
      → rid ≡ rid_of_insert (take n tree.entries) r → rid ≡ rank key (table_with t h.effects)
  layer_rank n rid split is =
      let split' : IsSplit (stands_before (insert_cmp schema.key_cols key) (rank key t)) (canonical_entries t h.effects) n =
      subst (λ es. IsSplit (stands_before (insert_cmp schema.key_cols key) (rank key t)) es n) h.entries
      (subst (λ k. IsSplit (stands_before (insert_cmp k key) (rank key t)) tree.entries n) h.key_cols
      (subst (λ m. IsSplit (stands_before (insert_cmp tree.key_cols key) m) tree.entries n) place split)) in
      is ∙ (λ i. rid_of_insert (take n (h.entries i)) (place i)) ∙ rank_is schema t h.effects h.over key n split'
