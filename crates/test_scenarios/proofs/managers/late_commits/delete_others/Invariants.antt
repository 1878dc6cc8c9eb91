use Rattle.txn.specs.Txn.{Transaction}
use Rattle.manager.specs.Managed.{IsOwn}
use Rattle.test_scenarios.proofs.managers.late_commits.delete_others.Given as goal

abbrev pub invariant-loop-row : goal.invariant-loop-row
invariant-loop-row l = (txn : Transaction) → IsOwn l.fn.manager txn → IsOwn l.manager txn
