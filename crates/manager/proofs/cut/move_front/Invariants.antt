use Rattle.std.proofs.Common.{◌≡◌, take, drop}
use Rattle.circular_buffer.specs.Buffer.{buffer}
use Rattle.manager.proofs.cut.move_front.Given as goal

-- the first items so far stand in the other buffer
abbrev pub invariant-loop-moved : goal.invariant-loop-moved
invariant-loop-moved l = record {
  moved : l.to ≡ buffer (take l.moved l.fn.from.items) l.fn.from.capacity;
  left : l.from ≡ buffer (drop l.moved l.fn.from.items) l.fn.from.capacity;
}
