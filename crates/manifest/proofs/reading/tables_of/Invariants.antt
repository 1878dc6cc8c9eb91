use Rattle.std.proofs.Common.{length, map}
use Rattle.manifest.specs.Manifest.{table_now}
use Rattle.manifest.specs.Reading.{tables_at}
use Rattle.manifest.proofs.LoopLemmas.{IsReadTo}
use Rattle.manifest.proofs.reading.tables_of.Given as goal

abbrev pub invariant-loop-rest : goal.invariant-loop-rest
invariant-loop-rest l = IsReadTo l.rest (map table_now l.tables.items) (tables_at (length l.bytes) l.bytes)

abbrev pub decreases-loop-rest : goal.decreases-loop-rest
decreases-loop-rest l = length l.rest
