use Rattle.std.proofs.Common.{◌≡◌, ◌-◌, ◌≤◌, length, take}
use Rattle.blocks.proofs.RunLemmas.{run_numbers}
use Rattle.blocks.proofs.bits.Bits.put_numbers.Given as goal

-- so much of the room has the numbers of the truths
abbrev pub invariant-loop-done : goal.invariant-loop-done
invariant-loop-done l =
    (length l.out ≡ length l.fn.out) × (l.done ≤ length l.out) × (take l.done l.out ≡ run_numbers l.self l.first l.done)

abbrev pub decreases-loop-done : goal.decreases-loop-done
decreases-loop-done l = length l.initial.out - l.done
