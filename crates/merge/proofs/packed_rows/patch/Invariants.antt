use Rattle.std.proofs.Common.{◌≡◌, ◌+◌, ◌-◌, ◌≤◌, T, length, drop}
use Rattle.std.specs.List.{list_all}
use Rattle.merge.specs.Filling.{is_from, patched, patches_before, patches_from}
use Rattle.merge.proofs.packed_rows.patch.Given as goal

-- those that are left make of the numbers what all of them make
abbrev pub invariant-loop-patch : goal.invariant-loop-patch
invariant-loop-patch l =
    (l.done ≤ length l.patches)
    × (length l.out ≡ length l.fn.out)
    × T (list_all (is_from l.first) (drop l.done l.patches))
    × (patches_from (l.first + length l.out) (drop l.done l.patches) ≡ patches_from (l.first + length l.fn.out) l.patches)
    × (patched l.first (patches_before (l.first + length l.out) (drop l.done l.patches)) l.out
    ≡ patched l.first (patches_before (l.first + length l.fn.out) l.patches) l.fn.out)

abbrev pub decreases-loop-patch : goal.decreases-loop-patch
decreases-loop-patch l = length l.patches - l.done
