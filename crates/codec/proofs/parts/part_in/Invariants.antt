use Rattle.std.proofs.Common.{◌≤◌, length}
use Rattle.std.specs.Prelude.{MatchOption}
use Rattle.codec.specs.Reading.{maybe_span, span_in}
use Rattle.codec.proofs.LoopLemmas.{IsScannedTo}
use Rattle.codec.proofs.parts.part_in.Given as goal

abbrev pub invariant-loop-rest : goal.invariant-loop-rest
invariant-loop-rest l = record {
  left : length l.rest ≤ length l.payload;
  within : MatchOption l.found (Unit {0}) (λ part. length part.bytes.now ≤ part.end);
  read : IsScannedTo l.table (length l.payload) l.low l.rest (maybe_span l.found) (span_in l.table l.payload);
}

abbrev pub decreases-loop-rest : goal.decreases-loop-rest
decreases-loop-rest l = length l.rest
