use Rattle.std.proofs.Common.{◌≡◌, ◌++◌}
use Rattle.std.specs.Vec.Iter.{into_iter_items}
use Rattle.counted.proofs.node.bulk.shared.Given as goal

-- the entries so far stand in the vector
abbrev pub invariant-loop-entry : goal.invariant-loop-entry
invariant-loop-entry l = goal.iterator-loop-entry.can_next l.entry-iterator
    × goal.iterator-loop-entry.is_finite l.entry-iterator
    × (l.out.items ++ into_iter_items l.entry-iterator ≡ l.fn.entries.items)
