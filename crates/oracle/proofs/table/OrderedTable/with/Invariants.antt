use Rattle.std.proofs.Common.{◌≡◌}
use Rattle.model.specs.Effects.{table_with}
use Rattle.oracle.proofs.table.OrderedTable.with.Given as goal

abbrev pub invariant-loop-key : goal.invariant-loop-key
invariant-loop-key l = table_with l.table l.key-iterator ≡ table_with l.fn.self l.fn.effects
