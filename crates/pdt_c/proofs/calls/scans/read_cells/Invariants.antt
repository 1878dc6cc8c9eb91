use Rattle.std.proofs.Common.{◌≡◌, ◌≤◌, length, drop, map, take}
use Rattle.stable.specs.Rows.{column_values}
use Rattle.pdt_c.specs.Cells.{number_of, texts_of}
use Rattle.pdt_c.specs.Reads.{column_from}
use Rattle.pdt_c.proofs.calls.scans.read_cells.Given as goal

-- the cells so far stand in C's room, and those of the rows that are left come after them
abbrev pub invariant-loop-rows : goal.invariant-loop-rows
invariant-loop-rows l =
    let cells = column_from l.txn l.col l.from in
    (length l.numbers ≡ l.room)
    × (length l.texts ≡ length l.fn.texts)
    × (l.end ≤ length l.fn.texts)
    × (l.rows ≤ l.room)
    × (l.rows ≤ length cells)
    × (drop l.rows cells ≡ column_values l.col l.scan)
    × (take l.rows l.numbers ≡ map number_of (take l.rows cells))
    × (take l.end l.texts ≡ texts_of (take l.rows cells))
