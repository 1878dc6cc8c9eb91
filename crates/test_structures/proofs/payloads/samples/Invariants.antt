use Rattle.std.proofs.Common.{◌≡◌, true, false, length}
use Rattle.std.specs.List.{list_all, list_any}
use Rattle.values.specs.Shape.{has_type, is_too_long}
use Rattle.test_structures.proofs.payloads.samples.Given as goal

abbrev pub invariant-loop-i : goal.invariant-loop-i
invariant-loop-i l = record {
  counted : length l.values.items ≡ l.i;
  typed : list_all (has_type l.ty) l.values.items ≡ true;
  short : list_any is_too_long l.values.items ≡ false;
}
