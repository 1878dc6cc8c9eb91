use Rattle.std.proofs.Common.{◌≡◌, length, map, take}
use Rattle.blocks.specs.Column.{Column}
use Rattle.pdt_c.proofs.FillingLemmas.{EachFilled}
use Rattle.pdt_c.proofs.given.columns.GivenColumns.columns.Given as goal

-- the columns so far are those of the first types, each filled
abbrev pub invariant-loop-col : goal.invariant-loop-col
invariant-loop-col l =
    (length l.columns.items ≡ l.col)
    × (map (λ (x : Column). x.ty) l.columns.items ≡ take l.col l.types)
    × EachFilled l.types l.self l.rows l.columns.items
