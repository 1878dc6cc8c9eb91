use Rattle.std.proofs.Common.{◌≡◌, [], get_or, take}
use Rattle.stable.proofs.table.StableTable.row.Given as goal

abbrev pub invariant-loop-col : goal.invariant-loop-col
invariant-loop-col l = l.cells.items ≡ take l.col (get_or l.self.rows l.sid [])
