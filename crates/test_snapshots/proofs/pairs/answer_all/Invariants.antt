use Rattle.std.proofs.Common.{◌≡◌}
use Rattle.test_snapshots.proofs.pairs.answer_all.Given as goal

abbrev pub invariant-loop-write : goal.invariant-loop-write
invariant-loop-write l = goal.iterator-loop-write.can_next l.write-iterator
    × goal.iterator-loop-write.is_finite l.write-iterator
    × (l.txn.schema ≡ l.fn.txn.schema)
    × (l.txn.table ≡ l.fn.txn.table)
