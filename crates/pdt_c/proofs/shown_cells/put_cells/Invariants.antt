use Rattle.std.proofs.Common.{◌≡◌, ◌≤◌, length, map, take}
use Rattle.pdt_c.specs.Cells.{number_of, texts_of}
use Rattle.pdt_c.proofs.shown_cells.put_cells.Given as goal

-- the numbers so far, and the bytes so far where they have room
abbrev pub invariant-loop-col : goal.invariant-loop-col
invariant-loop-col l =
    (length l.numbers ≡ length l.fn.numbers)
    × (length l.texts ≡ length l.fn.texts)
    × (take l.col l.numbers ≡ map number_of (take l.col l.cells))
    × (l.bytes ≤ length l.fn.texts → take l.bytes l.texts ≡ texts_of (take l.col l.cells))
