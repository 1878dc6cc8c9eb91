-- Single entries that a change of a tree looks at.
use Rattle.std.specs.Prelude.{◌≡◌, ℕ, ◌+◌, ◌<◌, ◌≤◌, ◌^◌, ◌==◌, Bool, false, ◌&&◌, IsFalse, IsNone, cond, Option, None, List, []}
use Rattle.std.specs.Prelude.{◌∷◌, length, drop}
use Rattle.values.specs.Shape.{key_of}
use Rattle.values.specs.declared.row.Key.{Key}
use Rattle.values.specs.declared.row.Row.{Row}
use Rattle.model.specs.declared.entry.Entry.{Entry}
use Rattle.model.specs.declared.entry.Change.{Change}
use Rattle.model.specs.declared.entry.Change.TheVariants.{Ins, Del, Mod}
use Rattle.model.specs.Entries.{is_delete}
use Rattle.model.specs.Edits.{put_ins, put_del, put_mod}
use Rattle.delta.specs.Lookups.{row_of, is_insert_at, inserted_row, has_delete}
use Rattle.delta.specs.Search.{insert_cmp, base_cmp, modify_cmp, past_cmp, stands_before, IsSplit}

abbrev pub modifies_column : ℕ → Change → Bool
modifies_column col (Ins row) = false
modifies_column col (Del key) = false
modifies_column col (Mod other value) = other == col

-- whether the entry is a modify of the column at the SID
abbrev pub is_modify_at : ℕ → ℕ → Entry → Bool
is_modify_at sid col e = (e.sid == sid) && modifies_column col e.change

abbrev pub is_delete_at : ℕ → Entry → Bool
is_delete_at sid e = (e.sid == sid) && is_delete e.change

-- the row of an entry, where that is the insert of the key at the SID
abbrev pub row_at : ℕ → ℕ → Key → Entry → Option Row
row_at key_cols sid key e = cond (is_insert_at key_cols sid key e) (row_of e.change) None

-- how many of the entries are the modify of the column at the SID, of which the first may be one
abbrev pub modify_count : ℕ → ℕ → List Entry → ℕ
modify_count sid col [] = 0
modify_count sid col (e ∷ entries) = cond (is_modify_at sid col e) 1 0

-- it is an insert, whose row has the column
abbrev pub has_cell : ℕ → Change → Type 0
has_cell col (Ins row) = col < length row
has_cell col (Del key) = ⊥
has_cell col (Mod other value) = ⊥

module _ (key_cols sid : ℕ) where
  -- the entries with a change at the SID put in
  abbrev pub entries_with : Change → List Entry → List Entry
  entries_with (Ins row) entries = put_ins key_cols sid row entries
  entries_with (Del key) entries = put_del key_cols sid key entries
  entries_with (Mod col value) entries = put_mod key_cols sid col value entries

  -- no insert of its key stands there, or, for what becomes of the row, no delete
  abbrev pub MayBePut : Change → List Entry → Type 0
  MayBePut (Ins row) entries = IsNone (inserted_row key_cols sid (key_of key_cols row) entries)
  MayBePut (Del key) entries = IsFalse (has_delete sid entries)
  MayBePut (Mod col value) entries = IsFalse (has_delete sid entries)

  -- the entries from n up to m are those that it replaces: none, all that becomes of the row, or the modify of its column
  abbrev pub IsRun : Change → List Entry → ℕ → ℕ → Type 0
  IsRun (Ins row) entries n m = IsSplit (stands_before (insert_cmp key_cols (key_of key_cols row)) sid) entries n × (m ≡ n)
  IsRun (Del key) entries n m = IsSplit (stands_before base_cmp sid) entries n × IsSplit (stands_before past_cmp sid) entries m
  IsRun (Mod col value) entries n m =
      IsSplit (stands_before (modify_cmp col) sid) entries n × (m ≡ n + modify_count sid col (drop n entries))

  -- an entry may be put in, in the place of those from n up to m
  pub record MayBePutAt (change : Change) (entries : List Entry) (n m : ℕ) : Type 0 where
    pub run : IsRun change entries n m
    pub free : MayBePut change entries
    pub small : sid < 2 ^ 32
    pub room : length (entries_with change entries) ≤ 2 ^ 40
