-- The row that a view shows.
use Rattle.std.specs.Prelude.{◌≡◌, ℕ, ◌<◌, ◌==◌, Bool, true, false, cond, Option, Some, None, List, [], ◌∷◌, ◌++◌, get_or, length, map, replicate, slice_set}
use Rattle.std.specs.Option.{option_map}
use Rattle.values.specs.Lent.{value_of}
use Rattle.values.specs.declared.value.ValueRef.{ValueRef}
use Rattle.values.specs.declared.row.Row.{Row}
use Rattle.values.specs.declared.value.Value.{Value}
use Rattle.model.specs.declared.entry.Entry.{Entry}
use Rattle.model.specs.declared.entry.Change.{Change}
use Rattle.model.specs.declared.entry.Change.TheVariants.{Ins, Del, Mod}
use Rattle.model.specs.Effects.{Cells, set_cells}
use Rattle.model.specs.Merging.{changes_at}
use Rattle.merge.specs.declared.view.Source.{Source}
use Rattle.merge.specs.declared.view.Source.TheVariants.{Stable, Inserted}
use Rattle.merge.specs.declared.view.Modifies.{Modifies}
use Rattle.merge.specs.declared.view.Modifies.TheVariants.{Nothing, One, Two, InTree}
use Rattle.merge.specs.declared.view.Layer.{Layer}
use Rattle.merge.specs.declared.view.Layer.TheVariants.{Read, Write, Trans}
use Rattle.merge.specs.declared.view.RowView.{RowView}

-- the cells that modifies change
abbrev pub modified_cells : List Change → Cells
modified_cells [] = []
modified_cells (Ins row ∷ changes) = modified_cells changes
modified_cells (Del key ∷ changes) = modified_cells changes
modified_cells (Mod col value ∷ changes) = (col, value) ∷ modified_cells changes

-- the cells that the entries at a SID change
abbrev pub cells_at : ℕ → List Entry → Cells
cells_at sid entries = modified_cells (changes_at sid entries)

-- the last value of a column among cells, or else the one so far
abbrev pub last_cell : ℕ → Option Value → Cells → Option Value
last_cell col so_far [] = so_far
last_cell col so_far (c ∷ cells) = last_cell col (cond (c.0 == col) (Some c.1) so_far) cells

-- the values that are modified, by column, with these cells too
abbrev pub with_cells : Cells → List (Option Value) → List (Option Value)
with_cells [] values = values
with_cells (c ∷ cells) values = with_cells cells (slice_set values c.0 (Some c.1))

-- the values that are lent
abbrev pub values_of : List (Option ValueRef) → List (Option Value)
values_of values = map (option_map value_of) values

-- the cells that a layer changes of a row
abbrev pub layer_cells : Modifies → Cells
layer_cells Nothing = []
layer_cells (One entry) = modified_cells (entry.now.change ∷ [])
layer_cells (Two entry other) = modified_cells (entry.now.change ∷ other.now.change ∷ [])
layer_cells (InTree tree sid) = cells_at sid tree.now.entries

-- whether they are searched in a tree
abbrev pub is_in_tree : Modifies → Bool
is_in_tree Nothing = false
is_in_tree (One entry) = false
is_in_tree (Two entry other) = false
is_in_tree (InTree tree sid) = true

-- the row before its modifies
abbrev pub source_row : Source → Row
source_row (Stable table sid) = get_or table.now.rows sid []
source_row (Inserted row) = row.now

-- the row under the Read-PDT, under the Write-PDT too, and under all three
abbrev pub read_row : RowView → Row
read_row v = set_cells (layer_cells v.read) (source_row v.source)

abbrev pub write_row : RowView → Row
write_row v = set_cells (layer_cells v.write) (read_row v)

abbrev pub row_of : RowView → Row
row_of v = set_cells (layer_cells v.trans) (write_row v)

-- the row before its modifies, and the row of a view, were these the stable rows
abbrev pub source_over : List Row → Source → Row
source_over base (Stable table sid) = get_or base sid []
source_over base (Inserted row) = row.now

abbrev pub row_over : List Row → RowView → Row
row_over base v =
    set_cells (layer_cells v.trans) (set_cells (layer_cells v.write) (set_cells (layer_cells v.read) (source_over base v.source)))

-- the SID of the stable row under a view, or none where a layer inserts the row
abbrev pub base_of : Source → Option ℕ
base_of (Stable table sid) = Some sid
base_of (Inserted row) = None

-- the cells that the layers change of a row, the lowest layer's first
abbrev pub own_cells : RowView → Cells
own_cells v = layer_cells v.read ++ (layer_cells v.write ++ layer_cells v.trans)

-- what the layers modify of the row, by column: the value of the highest layer that gives one
abbrev pub modified_values : RowView → List (Option Value)
modified_values v =
    with_cells (layer_cells v.trans)
    (with_cells (layer_cells v.write) (with_cells (layer_cells v.read) (replicate (length (row_of v)) None)))

-- no layer from that number on modifies the row: the Read-PDT has the number 0
pub record IsBare (depth : ℕ) (v : RowView) : Type 0 where
  pub read : depth < 1 → layer_cells v.read ≡ []
  pub write : depth < 2 → layer_cells v.write ≡ []
  pub trans : depth < 3 → layer_cells v.trans ≡ []

-- the number of a layer
abbrev pub layer_number : Layer → ℕ
layer_number Read = 0
layer_number Write = 1
layer_number Trans = 2
