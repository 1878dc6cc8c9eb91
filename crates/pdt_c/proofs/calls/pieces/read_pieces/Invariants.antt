use Rattle.std.proofs.Common.{◌≡◌, ◌≤◌, ◌++◌, List, length, take}
use Rattle.std.specs.Prelude.{ℤ}
use Rattle.pdt_c.specs.Cells.{numbers_of}
use Rattle.pdt_c.specs.Numbers.{column_between, AreShown}
use Rattle.pdt_c.proofs.calls.pieces.read_pieces.Given as goal

-- the pieces so far show the numbers so far, and those of the runs that are left come after them
abbrev pub invariant-loop-run : goal.invariant-loop-run
invariant-loop-run l =
    let all = column_between l.txn l.col l.from l.end in
    (length l.out ≡ length l.fn.out)
    × (l.filled.pieces ≤ length l.fn.out)
    × (seen : List ℤ) × (l.filled.rows ≡ length seen) × AreShown (take l.filled.pieces l.out) seen
    × (seen ++ l.run-iterator ≡ numbers_of all)
