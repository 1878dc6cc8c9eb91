use Rattle.std.proofs.Common.{◌≡◌, ◌++◌}
use Rattle.oracle.proofs.effect.copy_columns.Given as goal

abbrev pub invariant-loop-col : goal.invariant-loop-col
invariant-loop-col l = l.copied.entries ++ l.col-iterator ≡ l.columns.entries
