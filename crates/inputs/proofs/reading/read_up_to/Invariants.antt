use Rattle.std.proofs.Common.{◌≡◌, ◌≤◌, ◌+◌, ◌-◌, ℕ, List, [], length}
use Rattle.inputs.specs.Reading.{Fields, IsReading}
use Rattle.inputs.proofs.reading.read_up_to.Given as goal

-- so many records lead to where the reader stands
abbrev pub invariant-loop-before : goal.invariant-loop-before
invariant-loop-before l = record {
  last : l._before - 1 ≤ l.fn.number - 1;
  read : (read : List Fields) × (length read + 1 ≡ l._before)
      × ((text : List ℕ) → IsReading text [] l.fn.reader → IsReading text read l.reader);
}
