-- The change of an insert at the place of its key.
use Rattle.std.proofs.Common.{◌≡◌, ℕ, ◌<◌, Bool, true, cond, Option, Some, List, length, get_or, set, remove, sym, ◌∙◌, subst}
use Rattle.std.specs.Prelude.{IsTrue, IsSomeAnd, slice_get}
use Rattle.std.proofs.lemmas.Float.{T_from_true}
use Rattle.std.proofs.lemmas.Option.{get_or_from_slice_get}
use Rattle.values.specs.declared.row.Row.{Row}
use Rattle.values.specs.declared.row.Key.{Key}
use Rattle.values.specs.declared.value.Value.{Value}
use Rattle.model.specs.declared.entry.Entry.{Entry}
use Rattle.model.specs.declared.write.Write.{Write}
use Rattle.model.specs.declared.write.Write.TheVariants.{Delete, Set}
use Rattle.model.specs.Edits.{change_with_cell}
use Rattle.model.specs.Entries.{entry_at, are_ordered}
use Rattle.model.specs.Writes.{key_of_write}
use Rattle.delta.specs.Changes.{has_cell}
use Rattle.delta.specs.Lookups.{inserted_row}
use Rattle.delta.specs.Search.{insert_cmp, stands_before, IsSplit}
use Rattle.delta.proofs.CallerLemmas.{HasInsert, has_insert, nothing, some_of, cell_of}
use Rattle.txn.specs.Edit.{edited, MayBeEdited}

module _ (k sid n : ℕ) (es : List Entry) (ordered : IsTrue (are_ordered k es)) (inserted : Bool) (yes : inserted ≡ true)
    (write : Write) (split : IsSplit (stands_before (insert_cmp k (key_of_write k write)) sid) es n)
    (may : MayBeEdited k sid inserted write es) (done : Bool) (is_done : done ≡ true) where
  -- a delete takes the insert away
  module _ (key : Key) (is : write ≡ Delete key) where
    pub taken : HasInsert k sid key es n
    taken =
        has_insert k sid key es n (T_from_true _ ordered)
        (subst (λ (w : Write). IsSplit (stands_before (insert_cmp k (key_of_write k w)) sid) es n) is split)
        (subst (λ (e : Bool × Write). MayBeEdited k sid e.0 e.1 es) (λ i. (yes i, is i)) may)

    pub taken_is : remove es n ≡ cond done (edited k sid inserted write es) es
    taken_is = sym ((λ i. cond (is_done i) (edited k sid (yes i) (is i) es) es) ∙ taken.taken)

  -- and a set puts the cell in
  module _ (key : Key) (col : ℕ) (value : Value) (is : write ≡ Set key col value) where
    may_set : MayBeEdited k sid true (Set key col value) es
    may_set = subst (λ (e : Bool × Write). MayBeEdited k sid e.0 e.1 es) (λ i. (yes i, is i)) may

    pub found : HasInsert k sid key es n
    found =
        has_insert k sid key es n (T_from_true _ ordered)
        (subst (λ (w : Write). IsSplit (stands_before (insert_cmp k (key_of_write k w)) sid) es n) is split)
        (some_of (inserted_row k sid key es) (λ row. col < length row) may_set.0)

    pub cell_there : (e : Entry) → slice_get es n ≡ Some e → has_cell col e.change
    cell_there e at =
        subst (λ (e : Entry). has_cell col e.change) (get_or_from_slice_get es n e nothing at)
        (cell_of col (get_or es n nothing).change
        (subst (λ (o : Option Row). IsSomeAnd o (λ row. col < length row)) found.row_is may_set.0))

    pub set_is :
        set es n (entry_at (get_or es n nothing).sid (change_with_cell col value (get_or es n nothing).change))
        ≡ cond done (edited k sid inserted write es) es
    set_is = sym ((λ i. cond (is_done i) (edited k sid (yes i) (is i) es) es) ∙ found.with_cell col value)
