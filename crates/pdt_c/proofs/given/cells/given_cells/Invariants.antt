use Rattle.std.proofs.Common.{◌≡◌, ◌++◌, map, take}
use Rattle.std.specs.List.{flat_map}
use Rattle.pdt_c.specs.Cells.{type_of, number_of, bytes_of}
use Rattle.pdt_c.proofs.given.cells.given_cells.Given as goal

-- the cells so far are those of the first types and numbers, and their bytes stand before those that are left
abbrev pub invariant-loop-col : goal.invariant-loop-col
invariant-loop-col l =
    (map type_of l.cells.items ≡ take l.col l.types)
    × (map number_of l.cells.items ≡ take l.col l.numbers)
    × (flat_map bytes_of l.cells.items ++ l.rest ≡ l.texts)
