use Rattle.std.proofs.Common.{◌≡◌}
use Rattle.test_snapshots.proofs.transactions.stacks.make_all.Given as goal

abbrev pub invariant-loop-step : goal.invariant-loop-step
invariant-loop-step l = (l.txn.schema ≡ l.fn.txn.schema) × (l.txn.table ≡ l.fn.txn.table)
