-- What is in a list of entries: at a SID, and in all.
use Rattle.std.specs.Prelude.{ℕ, ◌==◌, Bool, ◌&&◌, cond, Option, Some, None, List, [], ◌∷◌, ℤ, pos, ◌-ℤ◌}
use Rattle.std.specs.List.{list_any}
use Rattle.values.specs.declared.row.Row.{Row}
use Rattle.values.specs.declared.row.Key.{Key}
use Rattle.model.specs.declared.entry.Entry.{Entry}
use Rattle.model.specs.declared.entry.Change.{Change}
use Rattle.model.specs.declared.entry.Change.TheVariants.{Ins, Del, Mod}
use Rattle.model.specs.Edits.{is_insert_of}
use Rattle.model.specs.Places.{insert_count, delete_count}
use Rattle.model.specs.Entries.{is_delete}

-- inserts less deletes
abbrev pub total_of : List Entry → ℤ
total_of entries = pos (insert_count entries) -ℤ pos (delete_count entries)

-- whether a delete stands at the SID
abbrev pub has_delete : ℕ → List Entry → Bool
has_delete sid entries = list_any (λ e. (e.sid == sid) && is_delete e.change) entries

-- the row of an insert
abbrev pub row_of : Change → Option Row
row_of (Ins row) = Some row
row_of (Del key) = None
row_of (Mod col value) = None

module _ (key_cols : ℕ) where
  -- whether an entry is the insert of the key at the SID
  abbrev pub is_insert_at : ℕ → Key → Entry → Bool
  is_insert_at sid key e = (e.sid == sid) && is_insert_of key_cols key e.change

  -- the row of the insert of the key at the SID, where there is one
  abbrev pub inserted_row : ℕ → Key → List Entry → Option Row
  inserted_row sid key [] = None
  inserted_row sid key (e ∷ entries) = cond (is_insert_at sid key e) (row_of e.change) (inserted_row sid key entries)
