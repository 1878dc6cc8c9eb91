-- What is left under a packed tree.
use Rattle.std.specs.Prelude.{◌≡◌, ◌+◌, ◌<◌, ◌≤◌, ℕ, suc, nat_lt, cond, Some, List, [], ◌∷◌, length, map, take, drop, slice_get}
use Rattle.values.specs.declared.row.Row.{Row}
use Rattle.values.specs.declared.value.ColumnType.{ColumnType}
use Rattle.values.specs.declared.limits.TheConstants.{MAX_ROWS}
use Rattle.model.specs.declared.entry.Entry.{Entry}
use Rattle.model.specs.declared.entry.Change.TheVariants.{Ins}
use Rattle.model.specs.Entries.{entry_at}
use Rattle.merge.specs.Cursor.{TreeCursor, IsCursor, entries_left, rows_left}
use Rattle.merge.specs.Filling.{HaveValues}
use Rattle.merge.specs.Packed.{number_at, patches_in, row_changes_from, rows_in}
use Rattle.merge.specs.declared.packed.RowChange.{RowChange}
use Rattle.merge.specs.declared.packed_rows.PackedRows.{PackedRows}

abbrev pub base_left : PackedRows → List Row
base_left p = drop p.below.sid p.below.table.now.rows

-- how many entries at the head lie before a SID
abbrev pub count_before : ℕ → List Entry → ℕ
count_before sid [] = 0
count_before sid (e ∷ entries) = cond (nat_lt e.sid sid) (suc (count_before sid entries)) 0

-- how far the walk has come in the tree
abbrev pub cursor_of : PackedRows → TreeCursor
cursor_of p =
    record { tree = p.tree.now; index = p.place + count_before p.sid (drop p.place p.tree.now.entries); sid = p.sid }

-- how many entries a cursor passes with the next so many base rows
abbrev pub count_passed : ℕ → TreeCursor → ℕ
count_passed m c = count_before (c.sid + m) (entries_left c)

-- the inserts and deletes that are left, packed
abbrev pub changes_left : TreeCursor → List RowChange
changes_left c = row_changes_from (length (rows_in (take c.index c.tree.entries))) c.index (entries_left c)

-- the rows that are left
abbrev pub packed_left : PackedRows → List Row
packed_left p = rows_left (cursor_of p) (base_left p)

-- the walk stands over the base rows that are left, before what is packed of the entries that are left
pub record IsPackedRows (p : PackedRows) : Type 0 where
  pub few : length p.below.table.now.rows ≤ MAX_ROWS
  pub cursor : IsCursor (length (base_left p)) (cursor_of p)
  pub changes_are : p.changes.now ≡ changes_left (cursor_of p)

-- this column is packed, and the base rows have values of the type in it
pub record HasPackedColumn (ty : ColumnType) (col : ℕ) (p : PackedRows) : Type 0 where
  pub inserted_are : p.inserted.now ≡ map (number_at col) (rows_in p.tree.now.entries)
  pub patches_are : p.patches.now ≡ patches_in col (entries_left (cursor_of p))
  pub values : HaveValues ty col (base_left p)

-- the next entry inserts the row of this number before the next base row
pub record IsInsertNext (row : ℕ) (p : PackedRows) : Type 0 where
  pub inserted : Row
  pub there : slice_get p.tree.now.entries (cursor_of p).index ≡ Some (entry_at p.sid (Ins inserted))
  pub numbered : row ≡ length (rows_in (take (cursor_of p).index p.tree.now.entries))
  pub some : 0 < length p.changes.now
