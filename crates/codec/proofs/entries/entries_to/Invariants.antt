use Rattle.std.proofs.Common.{◌≤◌, length}
use Rattle.codec.specs.Reading.{entries_to}
use Rattle.codec.proofs.LoopLemmas.{IsReadTo}
use Rattle.codec.proofs.entries.entries_to.Given as goal

abbrev pub invariant-loop-rest : goal.invariant-loop-rest
invariant-loop-rest l = record {
  left : length l.rest ≤ length l.bytes;
  read : IsReadTo l.schema l.end l.rest l.entries.items (entries_to l.schema l.end l.bytes);
}

abbrev pub decreases-loop-rest : goal.decreases-loop-rest
decreases-loop-rest l = length l.rest
