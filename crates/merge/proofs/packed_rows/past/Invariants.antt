use Rattle.std.proofs.Common.{◌≡◌, ◌-◌, ◌≤◌, length, drop}
use Rattle.merge.specs.Filling.{patches_from}
use Rattle.merge.proofs.packed_rows.past.Given as goal

-- the first that doesn't lie before the SID is left
abbrev pub invariant-loop-patch : goal.invariant-loop-patch
invariant-loop-patch l = (l.done ≤ length l.patches) × (patches_from l.sid (drop l.done l.patches) ≡ patches_from l.sid l.patches)

abbrev pub decreases-loop-patch : goal.decreases-loop-patch
decreases-loop-patch l = length l.patches - l.done
