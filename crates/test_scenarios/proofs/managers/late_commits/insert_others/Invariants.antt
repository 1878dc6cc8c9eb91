use Rattle.txn.specs.Txn.{Transaction}
use Rattle.manager.specs.Managed.{IsOwn}
use Rattle.test_scenarios.proofs.managers.late_commits.insert_others.Given as goal

abbrev pub invariant-loop-index : goal.invariant-loop-index
invariant-loop-index l = (txn : Transaction) → IsOwn l.fn.manager txn → IsOwn l.manager txn
