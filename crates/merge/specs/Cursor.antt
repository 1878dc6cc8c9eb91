-- A layer's entries from a cursor on, and the steps of the cursor.
use Rattle.std.specs.Prelude.{◌≡◌, ℕ, suc, ◌+◌, ◌<◌, ◌≤◌, ◌^◌, nat_lt, ◌==◌, ◌||◌, ◌&&◌, cond, Bool, false, T, List, [], ◌∷◌, ◌++◌}
use Rattle.std.specs.Prelude.{length, take, drop, slice_get, Some}
use Rattle.std.specs.List.{list_all}
use Rattle.values.specs.declared.row.Row.{Row}
use Rattle.model.specs.declared.entry.Entry.{Entry}
use Rattle.model.specs.Effects.{Cells, set_cells}
use Rattle.model.specs.Entries.{is_insert, is_delete, IsLawful}
use Rattle.model.specs.Merging.{merged_rows, merged_rows_from}
use Rattle.delta.specs.Tree.{Tree}
use Rattle.merge.specs.Level.{IsOver}
use Rattle.merge.specs.View.{layer_cells}
use Rattle.merge.specs.declared.cursor.Next.{Next}
use Rattle.merge.specs.declared.cursor.Next.TheVariants.{Inserted, Modified, Kept}

-- how many entries of a tree are passed, and the base row that is next
pub record TreeCursor : Type 0 where
  pub tree : Tree
  pub index : ℕ
  pub sid : ℕ

-- the entries that are left
abbrev pub entries_left : TreeCursor → List Entry
entries_left c = drop c.index c.tree.entries

-- whether an entry is past at the SID: below it, or an insert
abbrev pub is_past : ℕ → Entry → Bool
is_past sid e = nat_lt e.sid sid || is_insert e.change

-- a cursor over so many base rows that are left
pub record IsCursor (count : ℕ) (c : TreeCursor) : Type 0 where
  pub lawful : IsLawful c.tree.key_cols c.tree.entries
  pub past : T (list_all (is_past c.sid) (take c.index c.tree.entries))
  pub over : IsOver c.tree.key_cols c.sid (c.sid + count) (entries_left c)
  pub few : c.sid + count < 2 ^ 62

-- what is left of the image, over the base rows that are left
abbrev pub rows_left : TreeCursor → List Row → List Row
rows_left c base = merged_rows_from c.sid base (entries_left c)

-- the cursor stands at a position of the image of its tree over the rows
pub record IsCursorAt (base : List Row) (rid : ℕ) (c : TreeCursor) : Type 0 where
  pub within : c.sid ≤ length base
  pub rows : rows_left c (drop c.sid base) ≡ drop rid (merged_rows base c.tree.entries)
  pub cursor : IsCursor (length (drop c.sid base)) c

-- the entries from the first on that isn't at the SID
abbrev pub entries_past : ℕ → List Entry → List Entry
entries_past sid [] = []
entries_past sid (e ∷ entries) = cond (e.sid == sid) (entries_past sid entries) (e ∷ entries)

-- ---- steps

-- past the delete of the next base row
pub record DeletesNext (old new : TreeCursor) : Type 0 where
  pub some : (count : ℕ) → IsCursor count old → 0 < count
  pub rows : (row : Row) (base : List Row) → IsCursor (suc (length base)) old → rows_left old (row ∷ base) ≡ rows_left new base
  pub cursor : (count : ℕ) → IsCursor (suc count) old → IsCursor count new

-- whether the first entry is a delete at the SID
abbrev pub starts_with_delete : ℕ → List Entry → Bool
starts_with_delete sid [] = false
starts_with_delete sid (e ∷ entries) = (e.sid == sid) && is_delete e.change

-- no delete of the next base row is next
abbrev pub DeletesNone : TreeCursor → Type 0
DeletesNone c = starts_with_delete c.sid (entries_left c) ≡ false

-- past an insert
pub record InsertsNext (inserted : Row) (old new : TreeCursor) : Type 0 where
  pub rows : (base : List Row) → rows_left old base ≡ inserted ∷ rows_left new base
  pub cursor : (count : ℕ) → IsCursor count old → IsCursor count new

-- the next entry is this one, which changes the next base row
pub record ChangesNext (entry : Entry) (c : TreeCursor) : Type 0 where
  pub next : slice_get c.tree.entries c.index ≡ Some entry
  pub here : entry.sid ≡ c.sid
  pub other : is_insert entry.change ≡ false

-- past the modifies of the next base row, which change these cells
pub record ModifiesNext (cells : Cells) (old new : TreeCursor) : Type 0 where
  pub some : (count : ℕ) → IsCursor count old → 0 < count
  pub rows : (row : Row) (base : List Row) → IsCursor (suc (length base)) old
      → rows_left old (row ∷ base) ≡ set_cells cells row ∷ rows_left new base
  pub left : entries_left new ≡ entries_past old.sid (entries_left old)
  pub cursor : (count : ℕ) → IsCursor (suc count) old → IsCursor count new

-- a cursor further on, with no entry between
abbrev pub moved : ℕ → TreeCursor → TreeCursor
moved n c = record c { sid = c.sid + n }

-- so many base rows stand as they are, or fewer where no more than `most` of the image are wanted
pub record KeepsNext (most n : ℕ) (c : TreeCursor) : Type 0 where
  pub few : n ≤ most
  pub some : 0 < most → 0 < n
  pub within : (base : List Row) → IsCursor (length base) c → most ≤ length (rows_left c base) → n ≤ length base
  pub rows : (xs base : List Row) → length xs ≤ n → IsCursor (length xs + length base) c
      → rows_left c (xs ++ base) ≡ xs ++ rows_left (moved (length xs) c) base
  pub cursor : (k count : ℕ) → k ≤ n → IsCursor (k + count) c → IsCursor count (moved k c)

-- what a step passes
abbrev pub StepGives : ℕ → TreeCursor → Next → TreeCursor → Type 0
StepGives most old (Inserted row) new = InsertsNext row.now old new
StepGives most old (Modified modifies) new = ModifiesNext (layer_cells modifies) old new
StepGives most old (Kept n) new = KeepsNext most n old × (new ≡ old)
