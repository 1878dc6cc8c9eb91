-- What a tree makes of numbers and truths, packed: its inserts and deletes side by side, and what it makes of each column.
use Rattle.std.specs.Prelude.{◌≡◌, ℕ, ℤ, suc, pos, ◌<◌, ◌==◌, nat_lt, Bool, true, false, cond, IsTrue, Option, Some, None, List, [], ◌∷◌, length, map, get_or}
use Rattle.std.specs.List.{All}
use Rattle.values.specs.Shape.{Columns, has_type}
use Rattle.values.specs.declared.row.Row.{Row}
use Rattle.values.specs.declared.value.ColumnType.{ColumnType}
use Rattle.values.specs.declared.value.ColumnType.TheVariants as column
use Rattle.values.specs.declared.value.Value.{Value}
use Rattle.values.specs.declared.value.Value.TheVariants.{Int, Text, Bool as Truth}
use Rattle.model.specs.declared.entry.Entry.{Entry}
use Rattle.model.specs.declared.entry.Change.{Change}
use Rattle.model.specs.declared.entry.Change.TheVariants.{Ins, Del, Mod}
use Rattle.model.specs.Merging.{inserted_rows}
use Rattle.merge.specs.declared.packed.Patch.{Patch}
use Rattle.merge.specs.declared.packed.RowChange.{RowChange}
use Rattle.merge.specs.declared.packed.RowChange.TheVariants.{Insert, Delete}

-- a value's number: its own, 1 for true and 0 for false; a text has none, and counts as 0
abbrev pub number_of : Value → ℤ
number_of (Int n) = n
number_of (Text t) = pos 0
number_of (Truth b) = cond b (pos 1) (pos 0)

-- the number of a row in a column, and 0 where it ends before
abbrev pub number_at : ℕ → Row → ℤ
number_at col row = number_of (get_or row col (Truth false))

-- whether all values of a column take the same room, so that each has a number: a column of numbers or of truths
abbrev pub is_fixed_width : ColumnType → Bool
is_fixed_width column.Int = true
is_fixed_width column.Text = false
is_fixed_width column.Bool = true

-- these are the numbers of values of a column of the type
pub record AreNumbersOf (ty : ColumnType) (values : List Value) (numbers : List ℤ) : Type 0 where
  pub typed : All (λ value. IsTrue (has_type ty value)) values
  pub numbers_are : numbers ≡ map number_of values

-- the first of a list, where there is one more
abbrev pub with_first : {X : Type 0} → Option X → List X → List X
with_first None xs = xs
with_first (Some x) xs = x ∷ xs

-- what is left of a list from the first on whose number isn't below this one
abbrev pub left_from : {X : Type 0} → (X → ℕ) → ℕ → List X → List X
left_from number least [] = []
left_from number least (x ∷ xs) = cond (nat_lt (number x) least) (left_from number least xs) (x ∷ xs)

-- ---- inserts and deletes

-- the rows that entries insert, in order
abbrev pub rows_in : List Entry → List Row
rows_in entries = inserted_rows (map (λ e. e.change) entries)

-- how a change at a SID is packed, after so many rows that are inserted and so many entries before it: a modify not at all
abbrev pub row_change_at : ℕ → ℕ → ℕ → Change → Option RowChange
row_change_at rows place sid (Ins row) = Some (Insert sid place rows)
row_change_at rows place sid (Del key) = Some (Delete sid place)
row_change_at rows place sid (Mod col value) = None

-- how many rows are inserted up to a change and with it
abbrev pub rows_after : ℕ → Change → ℕ
rows_after rows (Ins row) = suc rows
rows_after rows (Del key) = rows
rows_after rows (Mod col value) = rows

-- the inserts and deletes among entries, packed, after so many inserted rows and so many entries
abbrev pub row_changes_from : ℕ → ℕ → List Entry → List RowChange
row_changes_from rows place [] = []
row_changes_from rows place (e ∷ entries) =
    with_first (row_change_at rows place e.sid e.change) (row_changes_from (rows_after rows e.change) (suc place) entries)

-- ---- modifies of a column

-- how a change at a SID is packed for a column: anything but a modify of the column not at all
abbrev pub patch_at : ℕ → ℕ → Change → Option Patch
patch_at col sid (Ins row) = None
patch_at col sid (Del key) = None
patch_at col sid (Mod other value) = cond (other == col) (Some (record { sid = sid; number = number_of value })) None

-- the modifies of a column among entries, packed
abbrev pub patches_in : ℕ → List Entry → List Patch
patches_in col [] = []
patches_in col (e ∷ entries) = with_first (patch_at col e.sid e.change) (patches_in col entries)

-- ---- a packed tree

-- what becomes of a column: the numbers of the rows that are inserted, and its modifies
pub record ColumnView : Type 0 where
  pub inserted : List ℤ
  pub modified : List Patch

-- inserts and deletes, and what becomes of each column that is packed
pub record PackedView : Type 0 where
  pub changes : List RowChange
  pub columns : List (Option ColumnView)

-- that is what these entries make of the column of this number
pub record IsPackedColumn (col : ℕ) (entries : List Entry) (c : ColumnView) : Type 0 where
  pub inserted_are : c.inserted ≡ map (number_at col) (rows_in entries)
  pub modified_are : c.modified ≡ patches_in col entries

-- these entries are packed so
pub record IsPacked (entries : List Entry) (p : PackedView) : Type 0 where
  pub changes_are : p.changes ≡ row_changes_from 0 0 entries
  pub columns_are : (col : ℕ) (c : ColumnView) → get_or p.columns col None ≡ Some c → IsPackedColumn col entries c

-- the type of the column of this number
abbrev pub type_at : Columns → ℕ → ColumnType
type_at schema col = get_or schema.types col column.Int

-- there is a column of this number, and it is one of numbers
pub record IsNumberColumn (schema : Columns) (col : ℕ) : Type 0 where
  pub there : col < length schema.types
  pub ints : type_at schema col ≡ column.Int

-- there is a column of this number, and it is one of numbers or of truths
pub record IsFixedWidthColumn (schema : Columns) (col : ℕ) : Type 0 where
  pub there : col < length schema.types
  pub fixed : IsTrue (is_fixed_width (type_at schema col))

-- ---- a packed insert or delete

-- its SID
abbrev pub sid_of : RowChange → ℕ
sid_of (Insert sid place row) = sid
sid_of (Delete sid place) = sid

-- its place among the entries
abbrev pub place_of : RowChange → ℕ
place_of (Insert sid place row) = place
place_of (Delete sid place) = place

-- whether it deletes a base row
abbrev pub is_gone : RowChange → Bool
is_gone (Insert sid place row) = false
is_gone (Delete sid place) = true

-- the number of the row that it inserts
abbrev pub row_in : RowChange → Option ℕ
row_in (Insert sid place row) = Some row
row_in (Delete sid place) = None
