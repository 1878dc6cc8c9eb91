use Rattle.std.proofs.Common.{◌≡◌, ◌+◌, ◌≤◌, ◌++◌, Bool, List, length, take, drop}
use Rattle.std.specs.Prelude.{vec_capacity}
use Rattle.blocks.specs.Payload.{byte_count, packed}
use Rattle.blocks.proofs.bits.add_run.Given as goal

-- the truths so far, and room for the others
abbrev pub invariant-loop-i : goal.invariant-loop-i
invariant-loop-i l = record {
  spelt : (bs : List Bool) → length bs ≡ l.count → l.fn.bytes.items ≡ packed (byte_count l.count) bs
      → l.bytes.items ≡ packed (byte_count (l.count + l.i)) (bs ++ take l.i (drop l.start l.others));
  room : byte_count (l.count + l.more) ≤ vec_capacity l.bytes;
}
