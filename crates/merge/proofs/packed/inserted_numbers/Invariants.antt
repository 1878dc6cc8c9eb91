use Rattle.std.proofs.Common.{◌≡◌, ◌++◌, map}
use Rattle.merge.specs.Packed.{number_at, rows_in}
use Rattle.merge.proofs.packed.inserted_numbers.Given as goal

-- the numbers so far stand before those of the rows that are left
abbrev pub invariant-loop-entry : goal.invariant-loop-entry
invariant-loop-entry l =
    l.numbers.items ++ map (number_at l.col) (rows_in l.entry-iterator) ≡ map (number_at l.col) (rows_in l.tree.entries)
