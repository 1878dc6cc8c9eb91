use Rattle.std.proofs.Common.{◌≡◌, map, take}
use Rattle.values.specs.Lent.{value_of}
use Rattle.test_fixtures.proofs.rows.cells.Given as goal

abbrev pub invariant-loop-value : goal.invariant-loop-value
invariant-loop-value l = l.cells.items ≡ map value_of (take l.value-index l.values)
