use Rattle.std.proofs.Common.{◌≡◌, length, drop}
use Rattle.values.specs.Shape.{values_fault}
use Rattle.codec.proofs.fit.cells_fit.Given as goal

-- the cells so far have no fault
abbrev pub invariant-loop-col : goal.invariant-loop-col
invariant-loop-col l = record {
  same_count : length l.cells ≡ length l.types;
  none_so_far : values_fault 0 l.types l.cells ≡ values_fault l.col (drop l.col l.types) (drop l.col l.cells);
}
