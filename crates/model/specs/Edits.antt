-- The changes of a tree, as edits of its list of entries.
use Rattle.std.specs.Prelude.{ℕ, ◌==◌, Bool, false, cond, not, ◌&&◌, Option, Some, List, [], ◌∷◌, map, filter, slice_set}
use Rattle.std.specs.Ordering.{eq_by_cmp, match_ordering}
use Rattle.values.specs.Orders.{key_cmp}
use Rattle.values.specs.Shape.{key_of}
use Rattle.values.specs.declared.row.Row.{Row}
use Rattle.values.specs.declared.row.Key.{Key}
use Rattle.values.specs.declared.value.Value.{Value}
use Rattle.model.specs.declared.entry.Entry.{Entry}
use Rattle.model.specs.declared.entry.Change.{Change}
use Rattle.model.specs.declared.entry.Change.TheVariants.{Ins, Del, Mod}
use Rattle.model.specs.declared.write.Write.{Write}
use Rattle.model.specs.declared.write.Write.TheVariants.{Insert, Delete, Set}
use Rattle.model.specs.declared.effect.Effect.{Effect}
use Rattle.model.specs.declared.effect.Effect.TheVariants as effect
use Rattle.model.specs.Entries.{entry_at, is_modify, entry_cmp}

-- an insert with another value in a cell of its row
abbrev pub change_with_cell : ℕ → Value → Change → Change
change_with_cell col value (Ins row) = Ins (slice_set row col value)
change_with_cell col value (Del key) = Del key
change_with_cell col value (Mod other w) = Mod other w

module _ (key_cols : ℕ) where
  -- the entries with this one, in place of one that ties with it
  abbrev pub put_entry : Entry → List Entry → List Entry
  put_entry e [] = e ∷ []
  put_entry e (x ∷ entries) = match_ordering (entry_cmp key_cols e x) (e ∷ x ∷ entries) (e ∷ entries) (x ∷ put_entry e entries)

  -- whether a change is the insert of this key
  abbrev pub is_insert_of : Key → Change → Bool
  is_insert_of key (Ins row) = eq_by_cmp key_cmp key (key_of key_cols row)
  is_insert_of key (Del other) = false
  is_insert_of key (Mod col value) = false

  -- ---- the changes of a tree

  -- an insert of a row
  abbrev pub put_ins : ℕ → Row → List Entry → List Entry
  put_ins sid row entries = put_entry (entry_at sid (Ins row)) entries

  -- a modify of a column, in place of one that is there
  abbrev pub put_mod : ℕ → ℕ → Value → List Entry → List Entry
  put_mod sid col value entries = put_entry (entry_at sid (Mod col value)) entries

  -- a delete of the row with this key, in place of the modifies of that row
  abbrev pub put_del : ℕ → Key → List Entry → List Entry
  put_del sid key entries = put_entry (entry_at sid (Del key)) (filter (λ e. not ((e.sid == sid) && is_modify e.change)) entries)

  -- the insert of this key is gone
  abbrev pub take_ins : ℕ → Key → List Entry → List Entry
  take_ins sid key entries = filter (λ e. not ((e.sid == sid) && is_insert_of key e.change)) entries

  -- the insert of this key has another value in a cell
  abbrev pub set_ins : ℕ → Key → ℕ → Value → List Entry → List Entry
  set_ins sid key col value entries =
      map (λ e. cond ((e.sid == sid) && is_insert_of key e.change) (entry_at e.sid (change_with_cell col value e.change)) e) entries

  -- what a write that is done changes in the tree, by its key's place and the effect there so far
  abbrev pub edited_entries : ℕ → Write → Option Effect → List Entry → List Entry
  edited_entries sid (Insert row) old entries = put_ins sid row entries
  edited_entries sid (Delete key) (Some (effect.Ins row)) entries = take_ins sid key entries
  edited_entries sid (Delete key) (Some (effect.Rep row)) entries = take_ins sid key entries
  edited_entries sid (Delete key) old entries = put_del sid key entries
  edited_entries sid (Set key col value) (Some (effect.Ins row)) entries = set_ins sid key col value entries
  edited_entries sid (Set key col value) (Some (effect.Rep row)) entries = set_ins sid key col value entries
  edited_entries sid (Set key col value) old entries = put_mod sid col value entries
