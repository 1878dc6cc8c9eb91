use Rattle.std.proofs.Common.{◌≡◌, length, drop}
use Rattle.values.specs.Shape.{values_fault}
use Rattle.values.proofs.schema.check_values.Given as goal

-- the values so far have no fault
abbrev pub invariant-loop-i : goal.invariant-loop-i
invariant-loop-i l = record {
  same_count : length l.values ≡ length l.types;
  none_so_far : values_fault 0 l.types l.values ≡ values_fault l.i (drop l.i l.types) (drop l.i l.values);
}
