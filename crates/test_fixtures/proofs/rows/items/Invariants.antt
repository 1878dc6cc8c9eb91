use Rattle.std.proofs.Common.{◌≡◌, map, take}
use Rattle.test_fixtures.specs.Named.{item_cells}
use Rattle.test_fixtures.proofs.rows.items.Given as goal

abbrev pub invariant-loop-id : goal.invariant-loop-id
invariant-loop-id l = l.rows.items ≡ map (λ named. item_cells named.0 named.1.now named.2) (take l.id-index l.named)
