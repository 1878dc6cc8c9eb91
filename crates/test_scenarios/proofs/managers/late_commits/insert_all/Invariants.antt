use Rattle.manager.specs.Managed.{Managed, IsOwn}
use Rattle.test_scenarios.proofs.managers.late_commits.insert_all.Given as goal

abbrev pub invariant-loop-place : goal.invariant-loop-place
invariant-loop-place l = (m : Managed) → IsOwn m l.fn.txn → IsOwn m l.txn
