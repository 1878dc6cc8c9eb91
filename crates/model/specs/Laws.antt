-- The laws of the definitions, for every table and all effects.
use Rattle.std.specs.Prelude.{◌≡◌, ℕ, ◌≤◌, false, cond, not, IsTrue, IsNone, IfSome, Some, None, is_some, List, [], ◌∷◌, ◌++◌, filter, length, slice_get}
use Rattle.std.specs.Ordering.{is_lt}
use Rattle.std.specs.List.{list_all, list_any, All}
use Rattle.values.specs.Orders.{key_cmp}
use Rattle.values.specs.Shape.{Columns}
use Rattle.values.specs.declared.row.Row.{Row}
use Rattle.values.specs.declared.row.Key.{Key}
use Rattle.model.specs.declared.entry.Entry.{Entry}
use Rattle.model.specs.declared.entry.Change.TheVariants.{Ins}
use Rattle.model.specs.declared.write.Write.{Write}
use Rattle.model.specs.declared.clash.ClashKind.{ClashKind}
use Rattle.model.specs.declared.clash.ConflictRule.{ConflictRule}
use Rattle.model.specs.Maps.{find}
use Rattle.model.specs.Table.{Table, rows_of, rank, IsTable}
use Rattle.model.specs.Effects.{Effects, AreOver, AreEffects, table_with}
use Rattle.model.specs.Composition.{composed_effects}
use Rattle.model.specs.Writes.{write_fits_schema, key_of_write, reply_to, is_done, effects_after, effects_after_all}
use Rattle.model.specs.Clashes.{conflicts}
use Rattle.model.specs.Entries.{entry_at, canonical_entries, are_ordered}
use Rattle.model.specs.Merging.{changes_at, left_of, merged_rows}
use Rattle.model.specs.Places.{rid_of_insert, rid_of_base}
use Rattle.model.specs.Edits.{edited_entries}
use Rattle.model.specs.Rebasing.{first_clash, AreClashing, IsLeastClash, rebased_entries, passed_entries}
use Rattle.model.specs.Folding.{folded_entries}
use Rattle.model.specs.History.{table_with_all, table_after, Start, Record, IsLegal, commits_of}

-- ---- tables and effects

module _ (schema : Columns) where
  -- the entries of effects, merged into the rows of the table, give the rows of the table after them
  abbrev pub MergesToTable : Type 0
  MergesToTable =
      (t : Table) (x : Effects) → AreOver schema t x → merged_rows (rows_of t) (canonical_entries t x) ≡ rows_of (table_with t x)

  -- effects leave a table of the schema
  abbrev pub LeavesTable : Type 0
  LeavesTable = (t : Table) (x : Effects) → AreOver schema t x → IsTable schema (table_with t x)

  -- one transaction's effects after another's are those of one transaction
  abbrev pub ComposesInTurn : Type 0
  ComposesInTurn = (t : Table) (x f : Effects) → AreOver schema t x → AreOver schema (table_with t x) f →
      AreOver schema t (composed_effects x f) × (table_with t (composed_effects x f) ≡ table_with (table_with t x) f)

  -- ---- writes

  -- a write keeps the effects over the snapshot
  abbrev pub WriteKeeps : Type 0
  WriteKeeps = (limit : ℕ) (t : Table) (x : Effects) (write : Write) → AreOver schema t x → IsTrue (write_fits_schema schema write) →
      AreOver schema t (effects_after schema.key_cols limit t x write)

  -- and writes in order do
  abbrev pub WritesKeep : Type 0
  WritesKeep =
      (limit : ℕ) (t : Table) (x : Effects) (writes : List Write) → AreOver schema t x
      → IsTrue (list_all (write_fits_schema schema) writes) →
      AreOver schema t (effects_after_all schema.key_cols limit t x writes)

  -- no write takes the image past the row limit
  abbrev pub WriteKeepsLimit : Type 0
  WriteKeepsLimit = (limit : ℕ) (t : Table) (x : Effects) (write : Write) → AreOver schema t x →
      length (table_with t x) ≤ limit → length (table_with t (effects_after schema.key_cols limit t x write)) ≤ limit

  -- a write that is done is one edit of the entries, at the number of keys below its own; another leaves them
  abbrev pub WriteEdits : Type 0
  WriteEdits = (limit : ℕ) (t : Table) (x : Effects) (write : Write) → AreOver schema t x →
      let key = key_of_write schema.key_cols write in
      canonical_entries t (effects_after schema.key_cols limit t x write)
      ≡ cond (is_done (reply_to schema.key_cols limit t x write))
      (edited_entries schema.key_cols (rank key t) write (find key_cmp key x) (canonical_entries t x)) (canonical_entries t x)

  -- ---- entries

  -- what the order and the places of the entries are
  pub record AreEntries (t : Table) (entries : List Entry) : Type 0 where
    pub ordered : IsTrue (are_ordered schema.key_cols entries)
    pub placed : All (λ e. e.sid ≤ length t) entries

  -- canonical entries stand in order, none past the last row
  abbrev pub EntriesAreOrdered : Type 0
  EntriesAreOrdered = (t : Table) (x : Effects) → AreOver schema t x → AreEntries t (canonical_entries t x)

  -- they stand in key order: those of the keys below any key, followed by those of the rest
  abbrev pub EntriesSplit : Type 0
  EntriesSplit = (t : Table) (x : Effects) (key : Key) → AreEffects schema x →
      canonical_entries t x ≡ canonical_entries t (filter (λ e. is_lt (key_cmp e.0 key)) x)
      ++ canonical_entries t (filter (λ e. not (is_lt (key_cmp e.0 key))) x)

-- entries in order put each row at its position in the image
module _ (key_cols : ℕ) where
  -- the row of an insert
  abbrev pub InsertStandsAtRid : Type 0
  InsertStandsAtRid =
      (base : List Row) (before after : List Entry) (sid : ℕ) (row : Row)
      → let entries = before ++ entry_at sid (Ins row) ∷ after in
      IsTrue (are_ordered key_cols entries) → sid ≤ length base → slice_get (merged_rows base entries) (rid_of_insert before sid) ≡ Some row

  -- and a base row that isn't deleted, as its modifies leave it
  abbrev pub BaseStandsAtRid : Type 0
  BaseStandsAtRid =
      (base : List Row) (entries : List Entry) (sid : ℕ) (row now : Row) → IsTrue (are_ordered key_cols entries)
      → slice_get base sid ≡ Some row → left_of row (changes_at sid entries) ≡ now ∷ [] →
      slice_get (merged_rows base entries) (rid_of_base entries sid) ≡ Some now

module _ (schema : Columns) where
  -- ---- two transactions

  -- they conflict by a rule where a first clash of their entries is found by it
  abbrev pub ConflictIsFound : Type 0
  ConflictIsFound = (rule : ConflictRule) (t : Table) (x y : Effects) → AreOver schema t x → AreOver schema t y →
      is_some (first_clash rule schema.key_cols (canonical_entries t x) (canonical_entries t y)) ≡ conflicts rule x y

  -- where they don't, the one's entries made consecutive to the other's are those over the table after it
  abbrev pub RebasesEntries : Type 0
  RebasesEntries = (rule : ConflictRule) (t : Table) (x y : Effects) → AreOver schema t x → AreOver schema t y →
      conflicts rule x y ≡ false →
      let entries = rebased_entries schema.key_cols (canonical_entries t y) (canonical_entries t x) in
      AreOver schema (table_with t y) x × (entries ≡ canonical_entries (table_with t y) x)

  -- entries over a tree's image, folded into the tree, are those of the composed effects
  abbrev pub FoldsToComposed : Type 0
  FoldsToComposed = (t : Table) (x f : Effects) → AreOver schema t x → AreOver schema (table_with t x) f →
      folded_entries schema.key_cols (canonical_entries t x) (canonical_entries (table_with t x) f)
      ≡ canonical_entries t (composed_effects x f)

-- the first clash is one, and the least
module _ (key_cols : ℕ) where
  pub record IsFirstClash (rule : ConflictRule) (xs ys : List Entry) : Type 0 where
    pub least : IfSome (first_clash rule key_cols xs ys) (IsLeastClash rule key_cols xs ys)
    pub none : IsNone (first_clash rule key_cols xs ys) → (i j : ℕ) (kind : ClashKind) → ¬ AreClashing rule key_cols xs ys i j kind

  abbrev pub FirstClashIsLeast : Type 0
  FirstClashIsLeast = (rule : ConflictRule) (xs ys : List Entry) → IsFirstClash rule xs ys

-- ---- histories

module _ (schema : Columns) where
  -- each commit's effects are over the table that those before it leave
  abbrev pub AreCommits : Table → List Effects → Type 0
  AreCommits t [] = Unit {0}
  AreCommits t (effects ∷ commits) = AreOver schema t effects × AreCommits (table_with t effects) commits

  -- the tree of each commit, over the table that it found
  abbrev pub trees_of : Table → List Effects → List (List Entry)
  trees_of t [] = []
  trees_of t (effects ∷ commits) = canonical_entries t effects ∷ trees_of (table_with t effects) commits

  -- a transaction is made consecutive to the commits since its begin, one at a time, or is found to conflict with one.
  -- An insert and another effect on one key never come first: a commit that makes room for them conflicts itself
  abbrev pub DecidesInTurn : Type 0
  DecidesInTurn = (rule : ConflictRule) (t : Table) (x : Effects) (commits : List Effects) → AreOver schema t x → AreCommits t commits →
      passed_entries rule schema.key_cols (trees_of t commits) (canonical_entries t x)
      ≡ cond (list_any (conflicts rule x) commits) None (Some (canonical_entries (table_with_all t commits) x))

  -- and where none conflicts, its effects fit the newest table
  abbrev pub FitsTheNewest : Type 0
  FitsTheNewest = (rule : ConflictRule) (t : Table) (x : Effects) (commits : List Effects) → AreOver schema t x → AreCommits t commits →
      list_any (conflicts rule x) commits ≡ false → AreOver schema (table_with_all t commits) x

  -- the commits of a legal history are each over the table that it found, wherever it starts
  abbrev pub LegalCommitsFit : Type 0
  LegalCommitsFit = (start : Start) (history : List Record) → IsTable schema start.table → IsLegal schema start history →
      AreCommits start.table (commits_of schema start history)

  -- and no table of it has more rows than the limit
  abbrev pub LegalTablesKeepLimit : Type 0
  LegalTablesKeepLimit = (start : Start) (history : List Record) (k : ℕ) → length start.table ≤ start.limit → IsLegal schema start history →
      length (table_after start (commits_of schema start history) k) ≤ start.limit
