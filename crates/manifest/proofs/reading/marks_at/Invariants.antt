use Rattle.std.proofs.Common.{◌≡◌, ◌-◌}
use Rattle.manifest.specs.Reading.{marks_at}
use Rattle.manifest.proofs.LoopLemmas.{with_marks}
use Rattle.manifest.proofs.reading.marks_at.Given as goal

abbrev pub invariant-loop : goal.invariant-loop
invariant-loop l = with_marks l.marks.items (marks_at (l.count - l.counter) l.rest) ≡ marks_at l.count l.bytes
