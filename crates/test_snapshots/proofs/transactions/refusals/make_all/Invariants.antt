use Rattle.txn.specs.Marks.{GoesOn}
use Rattle.test_snapshots.proofs.transactions.refusals.make_all.Given as goal

abbrev pub invariant-loop-made : goal.invariant-loop-made
invariant-loop-made g l = GoesOn l.fn.txn l.txn
