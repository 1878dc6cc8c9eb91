-- What is left under the Read-PDT, as it is packed or by its tree.
use Rattle.std.specs.Prelude.{◌≤◌, ℕ, List, length}
use Rattle.std.specs.List.{All}
use Rattle.values.specs.declared.row.Row.{Row}
use Rattle.values.specs.declared.value.ColumnType.{ColumnType}
use Rattle.values.specs.declared.limits.TheConstants.{MAX_ROWS}
use Rattle.merge.specs.Cursor.{IsCursor}
use Rattle.merge.specs.Filling.{HaveValues, IsWide}
use Rattle.merge.specs.Left.{read_left, stable_left}
use Rattle.merge.specs.PackedLeft.{HasPackedColumn, IsPackedRows, packed_left}
use Rattle.merge.specs.declared.read_rows.ReadRows.{ReadRows}
use Rattle.merge.specs.declared.read_rows.ReadRows.TheVariants.{Packed, Tree}

-- the rows that are left
abbrev pub rows_of_read : ReadRows → List Row
rows_of_read (Packed p) = packed_left p
rows_of_read (Tree l) = read_left l

-- a cursor is over the base rows that are left
abbrev pub AreReadRows : ReadRows → Type 0
AreReadRows (Packed p) = IsPackedRows p
AreReadRows (Tree l) = (length l.below.table.now.rows ≤ MAX_ROWS) × IsCursor (length (stable_left l.below)) l.cursor

-- the numbers of the column may be filled
abbrev pub HasReadColumn : ColumnType → ℕ → ReadRows → Type 0
HasReadColumn ty col (Packed p) = HasPackedColumn ty col p
HasReadColumn ty col (Tree l) = HaveValues ty col (stable_left l.below) × All (IsWide col) (stable_left l.below)
