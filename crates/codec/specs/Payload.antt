-- How the changes of a commit are spelt in bytes.
use Rattle.std.specs.Prelude.{◌<◌, ◌≤◌, ◌^◌, ℕ, ◌+◌, cond, List, [], ◌∷◌, ◌++◌, length}
use Rattle.std.specs.List.{flat_map}
use Rattle.std.specs.Int.{w32, to_be_bytes}
use Rattle.values.specs.declared.value.Value.{Value}
use Rattle.values.specs.declared.value.Value.TheVariants.{Int, Text, Bool as Truth}
use Rattle.blocks.specs.Payload.{spelling}
use Rattle.model.specs.declared.entry.Entry.{Entry}
use Rattle.model.specs.declared.entry.Change.{Change}
use Rattle.model.specs.declared.entry.Change.TheVariants.{Ins, Del, Mod}
use Rattle.codec.specs.declared.format.TheConstants.{INSERT, DELETE, MODIFY, FALSE, TRUE}

-- a cell, as the payload of a block of one value has it
abbrev pub cell_bytes : Value → List ℕ
cell_bytes (Int x) = spelling (Int x)
cell_bytes (Text t) = spelling (Text t)
cell_bytes (Truth b) = cond b TRUE FALSE ∷ []

-- cells, one after the other
abbrev pub cells_bytes : List Value → List ℕ
cells_bytes values = flat_map cell_bytes values

-- what an entry does: its kind, and a row, a key, or a column and a cell
abbrev pub change_bytes : Change → List ℕ
change_bytes (Ins row) = INSERT ∷ cells_bytes row
change_bytes (Del key) = DELETE ∷ cells_bytes key
change_bytes (Mod col value) = MODIFY ∷ col ∷ cell_bytes value

-- an entry: its SID in four bytes, and what it does
abbrev pub entry_bytes : Entry → List ℕ
entry_bytes entry = to_be_bytes w32 entry.sid ++ change_bytes entry.change

-- entries, one after the other
abbrev pub entries_bytes : List Entry → List ℕ
entries_bytes entries = flat_map entry_bytes entries

-- bytes of a table after its number and their count, in four bytes each
abbrev pub framed : ℕ → List ℕ → List ℕ
framed table bytes = to_be_bytes w32 table ++ (to_be_bytes w32 (length bytes) ++ bytes)

-- a table's entries
abbrev pub part_bytes : ℕ → List Entry → List ℕ
part_bytes table entries = framed table (entries_bytes entries)

-- a table that a commit changed, and the entries of its tree
pub record Part : Type 0 where
  pub table : ℕ
  pub entries : List Entry

-- the parts of a commit, one after the other
abbrev pub payload_of : List Part → List ℕ
payload_of parts = flat_map (λ part. part_bytes part.table part.entries) parts

-- whether parts may stand in a payload: their tables ascend from this one on, and table and size fit four bytes
abbrev pub AreParts : ℕ → List Part → Type 0
AreParts low [] = Unit {0}
AreParts low (part ∷ parts) =
    (low ≤ part.table) × (part.table < 2 ^ 32) × (length (entries_bytes part.entries) < 2 ^ 32) × AreParts (part.table + 1) parts
