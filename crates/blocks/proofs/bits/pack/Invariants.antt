use Rattle.std.proofs.Common.{◌≡◌, ◌-◌, ◌*◌, ◌++◌, drop, map}
use Rattle.blocks.specs.Payload.{packed, is_true}
use Rattle.blocks.proofs.bits.pack.Given as goal

abbrev pub invariant-loop-place : goal.invariant-loop-place
invariant-loop-place l =
    l.bytes.items ++ packed (l.count - l.place) (drop (8 * l.place) (map is_true l.values))
    ≡ packed l.count (map is_true l.values)
