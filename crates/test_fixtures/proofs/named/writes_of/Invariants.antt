use Rattle.std.proofs.Common.{◌≡◌, map, take}
use Rattle.test_fixtures.specs.Named.{named_write}
use Rattle.test_fixtures.proofs.named.writes_of.Given as goal

abbrev pub invariant-loop-write : goal.invariant-loop-write
invariant-loop-write l = l.writes.items ≡ map named_write (take l.write-index l.named)
