-- What C is handed of a layer's entries.
use Rattle.std.specs.Prelude.{◌≡◌, ℕ, ℤ, List, [], ◌∷◌, Option, None, Some, length, take, slice_get}
use Rattle.values.specs.declared.value.Value.{Value}
use Rattle.model.specs.declared.entry.Entry.{Entry}
use Rattle.model.specs.declared.entry.Change.{Change}
use Rattle.model.specs.declared.entry.Change.TheVariants.{Ins, Del, Mod}
use Rattle.model.specs.Places.{rid_of_insert}
use Rattle.delta.specs.Tree.{Tree}
use Rattle.pdt_c.specs.Reads.{IsHanded}
use Rattle.pdt_c.specs.declared.calls.entries.LayerEntry.{LayerEntry}

-- the number of a change's kind
abbrev pub kind_of : Change → ℕ
kind_of (Ins row) = 1
kind_of (Del key) = 2
kind_of (Mod col value) = 3

-- the column of a modify, and else 0
abbrev pub column_of : Change → ℕ
column_of (Ins row) = 0
column_of (Del key) = 0
column_of (Mod col value) = col

-- its cells: the row of an insert, the key of a delete, the new cell of a modify
abbrev pub cells_of : Change → List Value
cells_of (Ins row) = row
cells_of (Del key) = key
cells_of (Mod col value) = value ∷ []

-- how many entries a tree has, where there is one
abbrev pub entry_count : Option Tree → ℕ
entry_count None = 0
entry_count (Some tree) = length tree.entries

-- the entry at an index was handed out: where it stands, what it does, and its cells
pub record HandsEntry (tree : Tree) (index : ℕ) (shown : LayerEntry) (numbers : List ℤ) (texts : List ℕ) : Type 0 where
  pub entry : Entry
  pub there : slice_get tree.entries index ≡ Some entry
  pub sid_is : shown.sid ≡ entry.sid
  -- its SID, and the inserts less the deletes of the entries before it
  pub rid_is : shown.rid ≡ rid_of_insert (take index tree.entries) entry.sid
  pub kind_is : shown.kind ≡ kind_of entry.change
  pub column_is : shown.column ≡ column_of entry.change
  pub cells_are : shown.cells ≡ length (cells_of entry.change)
  pub handed : IsHanded (cells_of entry.change) numbers texts shown.bytes
