use Rattle.manager.specs.Managed.{Managed, IsOwn}
use Rattle.test_replay.proofs.histories.write_some.Given as goal

-- it is a transaction of the managers of which it was before
abbrev pub invariant-loop : goal.invariant-loop
invariant-loop l = (m : Managed) → IsOwn m l.fn.txn → IsOwn m l.txn
