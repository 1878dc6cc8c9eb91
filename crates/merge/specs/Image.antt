-- The image of a stable table under stacked layers of entries.
use Rattle.std.specs.Prelude.{◌≡◌, ℕ, Option, Some, None, List, []}
use Rattle.values.specs.Shape.{Columns}
use Rattle.values.specs.declared.row.Row.{Row}
use Rattle.model.specs.declared.entry.Entry.{Entry}
use Rattle.model.specs.Table.{Table, table_of}
use Rattle.model.specs.Effects.{Effects, AreOver, table_with}
use Rattle.model.specs.Entries.{canonical_entries}
use Rattle.model.specs.Merging.{merged_rows}
use Rattle.delta.specs.Tree.{Tree}
use Rattle.stable.specs.Stable.{Stable, table_in}

-- ---- the image

-- the rows of a stable table, and the entries of the three layers over it
pub record Stack : Type 0 where
  pub schema : Columns
  pub rows : List Row
  pub read : List Entry
  pub write : List Entry
  pub trans : List Entry

abbrev pub stack_of : Stable → Tree → Tree → Tree → Stack
stack_of stable read write trans =
    record { schema = stable.schema; rows = stable.rows; read = read.entries; write = write.entries; trans = trans.entries }

-- the tree on top, or no entries where there is none
abbrev pub tree_over : ℕ → Option Tree → Tree
tree_over key_cols None = record { key_cols = key_cols; entries = [] }
tree_over key_cols (Some tree) = tree

-- with no tree on top
abbrev pub stack_below : Stable → Tree → Tree → Stack
stack_below stable read write =
    record { schema = stable.schema; rows = stable.rows; read = read.entries; write = write.entries; trans = [] }

-- the rows under the Read-PDT
abbrev pub read_rows : Stack → List Row
read_rows s = merged_rows s.rows s.read

-- under the Write-PDT too
abbrev pub write_rows : Stack → List Row
write_rows s = merged_rows (read_rows s) s.write

-- and under all three: the rows of the image
abbrev pub image_rows : Stack → List Row
image_rows s = merged_rows (write_rows s) s.trans

-- the layers, were these the stable rows
abbrev pub stack_over : List Row → Stack → Stack
stack_over base s = record s { rows = base }

-- those rows, each under its key
abbrev pub image_table : Stack → Table
image_table s = table_of s.schema.key_cols (image_rows s)

-- ---- what stacked layers keep

-- the entries of a tree are those of some effects over the table
pub record IsLayer (schema : Columns) (t : Table) (tree : Tree) : Type 0 where
  pub key_cols : tree.key_cols ≡ schema.key_cols
  pub effects : Effects
  pub over : AreOver schema t effects
  pub entries : tree.entries ≡ canonical_entries t effects

-- the Read-PDT is a layer over the stable table, and the Write-PDT one over the table that the Read-PDT leaves
pub record AreBothStacked (stable : Stable) (read write : Tree) : Type 0 where
  pub lower : IsLayer stable.schema (table_in stable) read
  pub middle : IsLayer stable.schema (table_with (table_in stable) lower.effects) write

-- each layer is one over the table that those below it leave
pub record AreStacked (stable : Stable) (read write trans : Tree) : Type 0 where
  pub lower : IsLayer stable.schema (table_in stable) read
  pub middle : IsLayer stable.schema (table_with (table_in stable) lower.effects) write
  pub upper : IsLayer stable.schema (table_with (table_with (table_in stable) lower.effects) middle.effects) trans
