-- The numbers of one column, batch by batch.
use Rattle.std.specs.Prelude.{◌≡◌, ◌<◌, ◌≤◌, ℕ, ℤ, ◌+◌, ◌-◌, ◌==◌, nat_lt, nat_le, ◌&&◌, Bool, false, cond, T, List, [], ◌∷◌, ◌++◌, length, map, take, get_or, slice_set}
use Rattle.std.specs.List.{All, list_all}
use Rattle.values.specs.declared.row.Row.{Row}
use Rattle.values.specs.declared.value.ColumnType.{ColumnType}
use Rattle.model.specs.declared.entry.Entry.{Entry}
use Rattle.model.specs.declared.entry.Change.{Change}
use Rattle.model.specs.declared.entry.Change.TheVariants.{Ins, Del, Mod}
use Rattle.model.specs.Entries.{is_insert, is_modify}
use Rattle.merge.specs.Cursor.{TreeCursor, IsCursor, entries_left, rows_left}
use Rattle.merge.specs.Fitting.{StandsAt}
use Rattle.merge.specs.Packed.{left_from, number_at}
use Rattle.merge.specs.declared.packed.Patch.{Patch}
use Rattle.merge.specs.declared.number_runs.NumberRun.{NumberRun}
use Rattle.merge.specs.declared.number_runs.NumberRun.TheVariants.{Lent, One}

-- the first rows are passed, and these are their numbers in the column
pub record FillsRows (col : ℕ) (old : List Row) (numbers : List ℤ) (new : List Row) : Type 0 where
  pub passed : List Row
  pub rows : old ≡ passed ++ new
  pub numbers_are : numbers ≡ map (number_at col) passed

-- the row doesn't end before the column
abbrev pub IsWide : ℕ → Row → Type 0
IsWide col row = col < length row

-- the rows have a value of the type in the column
abbrev pub HaveValues : ColumnType → ℕ → List Row → Type 0
HaveValues ty col rows = All (StandsAt ty col) rows

-- the numbers of a run
abbrev pub numbers_in : NumberRun → List ℤ
numbers_in (Lent numbers) = numbers.now
numbers_in (One number) = number ∷ []

-- ---- patches

-- what packed modifies of a column make of the numbers of the base rows from a SID on
abbrev pub patched : ℕ → List Patch → List ℤ → List ℤ
patched first [] numbers = numbers
patched first (p ∷ patches) numbers = patched first patches (slice_set numbers (p.sid - first) p.number)

-- those at the head that lie before a SID, and those that are left
abbrev pub patches_before : ℕ → List Patch → List Patch
patches_before sid [] = []
patches_before sid (p ∷ patches) = cond (nat_lt p.sid sid) (p ∷ patches_before sid patches) []

abbrev pub patches_from : ℕ → List Patch → List Patch
patches_from sid patches = left_from (λ p. p.sid) sid patches

-- whether one doesn't lie before a SID
abbrev pub is_from : ℕ → Patch → Bool
is_from sid p = nat_le sid p.sid

-- ---- rows under modifies

-- rows from a SID on with what a change gives one of them
abbrev pub modified_by : ℕ → ℕ → Change → List Row → List Row
modified_by first sid (Ins row) rows = rows
modified_by first sid (Del key) rows = rows
modified_by first sid (Mod col value) rows = slice_set rows (sid - first) (slice_set (get_or rows (sid - first) []) col value)

abbrev pub modified_rows : ℕ → List Entry → List Row → List Row
modified_rows first [] rows = rows
modified_rows first (e ∷ entries) rows = modified_rows first entries (modified_by first e.sid e.change rows)

-- whether an entry is a modify of a row from one SID on and before another
abbrev pub modifies_between : ℕ → ℕ → Entry → Bool
modifies_between first end e = nat_le first e.sid && nat_lt e.sid end && is_modify e.change

-- a cursor past so many entries and base rows
abbrev pub past_modifies : ℕ → ℕ → TreeCursor → TreeCursor
past_modifies n m c = record { tree = c.tree; index = c.index + n; sid = c.sid + m }

-- the next so many base rows are there, with what the next so many entries modify of them; no more than `most` of the image are wanted
pub record KeepsModified (most n m : ℕ) (c : TreeCursor) : Type 0 where
  pub few : m ≤ most
  pub some : 0 < most → 0 < m
  pub entries : n ≤ length (entries_left c)
  pub within : (base : List Row) → IsCursor (length base) c → most ≤ length (rows_left c base) → m ≤ length base
  pub modifies : T (list_all (modifies_between c.sid (c.sid + m)) (take n (entries_left c)))
  pub rows : (xs base : List Row) → length xs ≡ m → IsCursor (length xs + length base) c
      → rows_left c (xs ++ base) ≡ modified_rows c.sid (take n (entries_left c)) xs ++ rows_left (past_modifies n m c) base
  pub cursor : (count : ℕ) → IsCursor (m + count) c → IsCursor count (past_modifies n m c)

-- ---- what is next

-- whether the first entry is an insert at the SID
abbrev pub starts_with_insert : ℕ → List Entry → Bool
starts_with_insert sid [] = false
starts_with_insert sid (e ∷ entries) = (e.sid == sid) && is_insert e.change

-- no insert before the next base row is next
abbrev pub InsertsNone : TreeCursor → Type 0
InsertsNone c = starts_with_insert c.sid (entries_left c) ≡ false
