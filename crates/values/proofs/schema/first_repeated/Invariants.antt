use Rattle.std.proofs.Common.{◌≡◌, ◌-◌, length}
use Rattle.std.specs.Prelude.{find}
use Rattle.std.specs.List.{range_with_len}
use Rattle.values.specs.Shape.{names_of, repeated_name, stands_before}
use Rattle.values.proofs.schema.first_repeated.Given as goal

-- no column so far has an earlier one's name
abbrev pub invariant-loop-col : goal.invariant-loop-col
invariant-loop-col l =
    repeated_name (names_of l.cols) ≡ find (stands_before (names_of l.cols)) (range_with_len l.col (length l.cols - l.col))
