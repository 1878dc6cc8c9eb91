-- The laws of the lists that trees hold, for every list, table and all effects.
use Rattle.std.specs.Prelude.{◌≡◌, ℕ, ◌<◌, ◌≤◌, Bool, true, false, not, IsTrue, IsFalse, IsNone, IsSome, IsSomeAnd, Option, Some, None, is_some, List, length}
use Rattle.std.specs.List.{list_any}
use Rattle.values.specs.Orders.{key_cmp}
use Rattle.values.specs.Shape.{Columns, key_of}
use Rattle.values.specs.declared.row.Row.{Row}
use Rattle.values.specs.declared.row.Key.{Key}
use Rattle.model.specs.declared.entry.Entry.{Entry}
use Rattle.model.specs.declared.entry.Change.{Change}
use Rattle.model.specs.declared.write.Write.{Write}
use Rattle.model.specs.declared.write.Write.TheVariants.{Insert, Delete, Set}
use Rattle.model.specs.declared.effect.Effect.{Effect}
use Rattle.model.specs.declared.effect.Effect.TheVariants.{Ins, Del, Mod, Rep}
use Rattle.model.specs.Maps.{find, is_sorted}
use Rattle.model.specs.Table.{Table, table_of, rank, row_at}
use Rattle.model.specs.Effects.{Effects, AreOver}
use Rattle.model.specs.Writes.{write_fits_schema, key_of_write, reply_to, is_done}
use Rattle.model.specs.Entries.{is_delete, is_modify, canonical_entries, IsLawful}
use Rattle.model.specs.Merging.{changes_at, inserted_rows}
use Rattle.model.specs.Places.{deleted_keys}
use Rattle.delta.specs.Lookups.{has_delete, inserted_row}

-- ---- what stands at one SID

module _ (key_cols : ℕ) where
  -- the inserts in strictly ascending key, and one delete at most, with no modify beside it
  pub record AtOneSid (changes : List Change) : Type 0 where
    pub inserts : IsTrue (is_sorted key_cmp (table_of key_cols (inserted_rows changes)))
    pub deletes : length (deleted_keys changes) ≤ 1
    pub alone : IsTrue (list_any is_delete changes) → IsTrue (not (list_any is_modify changes))

  -- the changes of a lawful list at any SID
  abbrev pub InsertsAscendAtASid : Type 0
  InsertsAscendAtASid = (entries : List Entry) (sid : ℕ) → IsLawful key_cols entries → AtOneSid (changes_at sid entries)

-- ---- what a transaction finds of its own effects

-- the row that an effect inserts, where there is one
abbrev pub row_inserted : Option Effect → Option Row
row_inserted None = None
row_inserted (Some (Ins row)) = Some row
row_inserted (Some Del) = None
row_inserted (Some (Mod cells)) = None
row_inserted (Some (Rep row)) = Some row

-- whether an effect deletes the row that was there
abbrev pub deletes_row : Option Effect → Bool
deletes_row None = false
deletes_row (Some (Ins row)) = false
deletes_row (Some Del) = true
deletes_row (Some (Mod cells)) = false
deletes_row (Some (Rep row)) = true

module _ (schema : Columns) where
  -- at a key's place in the entries of effects stand the row that its effect inserts and, where the table has the key,
  -- the delete that its effect is
  pub record FindsEffect (t : Table) (x : Effects) (key : Key) : Type 0 where
    pub insert : inserted_row schema.key_cols (rank key t) key (canonical_entries t x) ≡ row_inserted (find key_cmp key x)
    pub delete : is_some (row_at t key) ≡ true → has_delete (rank key t) (canonical_entries t x) ≡ deletes_row (find key_cmp key x)

  abbrev pub CanonicalLookUps : Type 0
  CanonicalLookUps = (t : Table) (x : Effects) (key : Key) → AreOver schema t x → FindsEffect t x key

-- ---- the change that a write makes

module _ (key_cols : ℕ) where
  -- what the call that makes the edit of a write asks of the entries, by the effect on its key so far
  abbrev pub MayEdit : ℕ → Write → Option Effect → List Entry → Type 0
  MayEdit sid (Insert row) old entries = IsNone (inserted_row key_cols sid (key_of key_cols row) entries)
  MayEdit sid (Delete key) (Some (Ins row)) entries = IsSome (inserted_row key_cols sid key entries)
  MayEdit sid (Delete key) (Some (Rep row)) entries = IsSome (inserted_row key_cols sid key entries)
  MayEdit sid (Delete key) old entries = IsFalse (has_delete sid entries)
  MayEdit sid (Set key col value) (Some (Ins row)) entries =
      IsSomeAnd (inserted_row key_cols sid key entries) (λ inserted. col < length inserted) × (key_cols ≤ col)
  MayEdit sid (Set key col value) (Some (Rep row)) entries =
      IsSomeAnd (inserted_row key_cols sid key entries) (λ inserted. col < length inserted) × (key_cols ≤ col)
  MayEdit sid (Set key col value) old entries = IsFalse (has_delete sid entries)

module _ (schema : Columns) where
  -- a write that is done may make its edit
  abbrev pub AWriteIsOneCall : Type 0
  AWriteIsOneCall = (limit : ℕ) (t : Table) (x : Effects) (write : Write) → AreOver schema t x → IsTrue (write_fits_schema schema write) →
      IsTrue (is_done (reply_to schema.key_cols limit t x write)) →
      let key = key_of_write schema.key_cols write in
      MayEdit schema.key_cols (rank key t) write (find key_cmp key x) (canonical_entries t x)
