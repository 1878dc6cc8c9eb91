use Rattle.std.proofs.Common.{◌≡◌, ◌+◌, ◌++◌, length}
use Rattle.std.specs.Vec.Iter.{into_iter_items, into_iter_len}
use Rattle.counted.proofs.node.bulk.next_of.Given as goal

-- so many are taken
abbrev pub invariant-loop : goal.invariant-loop
invariant-loop g l = record {
  items : into_iter_items l.initial.rest ≡ l.out.items ++ into_iter_items l.rest;
  count : length l.out.items ≡ l.counter;
  left : into_iter_len l.rest + l.counter ≡ into_iter_len l.initial.rest;
}
