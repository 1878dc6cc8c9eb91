use Rattle.std.proofs.Common.{◌≡◌, length}
use Rattle.test_fixtures.proofs.slots.all_left_in.Given as goal

abbrev pub invariant-loop-slot : goal.invariant-loop-slot
invariant-loop-slot l = length l.columns.items ≡ l.slot-index
