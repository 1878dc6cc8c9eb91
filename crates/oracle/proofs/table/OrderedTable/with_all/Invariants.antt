use Rattle.std.proofs.Common.{◌≡◌, drop}
use Rattle.model.specs.History.{table_with_all}
use Rattle.oracle.proofs.table.OrderedTable.with_all.Given as goal

abbrev pub invariant-loop-effects : goal.invariant-loop-effects
invariant-loop-effects l = table_with_all l.table (drop l.effects-index l.commits) ≡ table_with_all l.fn.self l.commits
