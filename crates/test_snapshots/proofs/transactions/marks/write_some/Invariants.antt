use Rattle.txn.specs.Marks.{GoesOn}
use Rattle.test_snapshots.proofs.transactions.marks.write_some.Given as goal

abbrev pub invariant-loop : goal.invariant-loop
invariant-loop l = GoesOn l.fn.txn l.txn
