use Rattle.std.proofs.Common.{◌≡◌, ℕ, length}
use Rattle.values.specs.declared.value.ColumnType.{ColumnType}
use Rattle.merge.specs.PackedLeft.{HasPackedColumn, IsPackedRows, packed_left}
use Rattle.merge.proofs.packed_rows.PackedRows.pass_deleted.Given as goal

-- what is left stays the same
abbrev pub invariant-loop-self : goal.invariant-loop-self
invariant-loop-self l =
    IsPackedRows l.self
    × (packed_left l.self ≡ packed_left l.fn.self)
    × ((ty : ColumnType) (col : ℕ) → HasPackedColumn ty col l.fn.self → HasPackedColumn ty col l.self)

abbrev pub decreases-loop-self : goal.decreases-loop-self
decreases-loop-self l = length l.self.changes.now
