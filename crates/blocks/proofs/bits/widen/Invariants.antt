use Rattle.std.proofs.Common.{◌≡◌, map, pos, take}
use Rattle.blocks.proofs.bits.widen.Given as goal

-- so much of the room has the bytes as numbers
abbrev pub invariant-loop-i : goal.invariant-loop-i
invariant-loop-i l = take l.i l.out ≡ map pos (take l.i l.bytes)
