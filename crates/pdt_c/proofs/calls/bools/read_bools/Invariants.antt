use Rattle.std.proofs.Common.{◌≡◌, ◌-◌, ◌≤◌, take}
use Rattle.pdt_c.specs.Reads.{column_from}
use Rattle.pdt_c.specs.Truths.{truths_of}
use Rattle.pdt_c.proofs.calls.bools.read_bools.Given as goal

-- so much of C's room has truths
abbrev pub invariant-loop-done : goal.invariant-loop-done
invariant-loop-done l = (l.done ≤ l.count) × (take l.done l.out ≡ take l.done (truths_of (column_from l.txn l.col l.from)))

abbrev pub decreases-loop-done : goal.decreases-loop-done
decreases-loop-done l = l.count - l.done
