-- The change of a tree that a write makes, by whether the transaction inserted the row that it is about.
use Rattle.std.specs.Prelude.{ℕ, ◌<◌, ◌≤◌, Bool, true, false, cond, IsFalse, IsNone, IsSome, IsSomeAnd, List, length}
use Rattle.values.specs.Shape.{key_of}
use Rattle.model.specs.declared.entry.Entry.{Entry}
use Rattle.model.specs.declared.write.Write.{Write}
use Rattle.model.specs.declared.write.Write.TheVariants.{Insert, Delete, Set}
use Rattle.model.specs.Edits.{put_ins, put_del, put_mod, take_ins, set_ins}
use Rattle.delta.specs.Lookups.{has_delete, inserted_row}
use Rattle.txn.specs.declared.writes.FoundRow.{FoundRow}
use Rattle.txn.specs.declared.writes.FoundRow.TheVariants.{Absent, Inserted, Kept, Modified}

-- whether a transaction finds a row, whether it inserted it, and whether it is of the snapshot and has no change
abbrev pub is_there : FoundRow → Bool
is_there Absent = false
is_there Inserted = true
is_there Kept = true
is_there Modified = true

abbrev pub is_inserted : FoundRow → Bool
is_inserted Absent = false
is_inserted Inserted = true
is_inserted Kept = false
is_inserted Modified = false

abbrev pub is_kept : FoundRow → Bool
is_kept Absent = false
is_kept Inserted = false
is_kept Kept = true
is_kept Modified = false

module _ (key_cols sid : ℕ) where
  -- the entries after the change
  abbrev pub edited : Bool → Write → List Entry → List Entry
  edited inserted (Insert row) entries = put_ins key_cols sid row entries
  edited inserted (Delete key) entries = cond inserted (take_ins key_cols sid key entries) (put_del key_cols sid key entries)
  edited inserted (Set key col value) entries =
      cond inserted (set_ins key_cols sid key col value entries) (put_mod key_cols sid col value entries)

  -- what the change asks of the entries
  abbrev pub MayBeEdited : Bool → Write → List Entry → Type 0
  MayBeEdited inserted (Insert row) entries = IsNone (inserted_row key_cols sid (key_of key_cols row) entries)
  MayBeEdited true (Delete key) entries = IsSome (inserted_row key_cols sid key entries)
  MayBeEdited false (Delete key) entries = IsFalse (has_delete sid entries)
  MayBeEdited true (Set key col value) entries =
      IsSomeAnd (inserted_row key_cols sid key entries) (λ row. col < length row) × (key_cols ≤ col)
  MayBeEdited false (Set key col value) entries = IsFalse (has_delete sid entries)
