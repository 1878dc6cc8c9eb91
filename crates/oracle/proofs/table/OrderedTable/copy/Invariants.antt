use Rattle.std.proofs.Common.{◌≡◌, ◌++◌}
use Rattle.oracle.proofs.table.OrderedTable.copy.Given as goal

abbrev pub invariant-loop-key : goal.invariant-loop-key
invariant-loop-key l = l.copied.entries ++ l.key-iterator ≡ l.fn.self
