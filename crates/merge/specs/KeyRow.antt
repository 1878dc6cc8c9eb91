-- The row of a key over a layer.
use Rattle.std.specs.Prelude.{ℕ, Option, Some, None, option_map, List}
use Rattle.values.specs.declared.row.Row.{Row}
use Rattle.model.specs.declared.entry.Entry.{Entry}
use Rattle.model.specs.Effects.{set_cells}
use Rattle.delta.specs.declared.by_sid.BaseChange.{BaseChange}
use Rattle.delta.specs.declared.by_sid.BaseChange.TheVariants.{Kept, Modified, Deleted}
use Rattle.merge.specs.View.{cells_at}

-- from the row below, which stands at the SID: the row that is inserted with the key, or else what becomes of that below
abbrev pub row_above : ℕ → List Entry → Option Row → Option Row → BaseChange → Option Row
row_above sid entries below (Some row) change = Some row
row_above sid entries below None Kept = below
row_above sid entries below None Deleted = None
row_above sid entries below None Modified = option_map (set_cells (cells_at sid entries)) below
