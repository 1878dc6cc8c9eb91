use Rattle.std.proofs.Common.{◌≡◌, ◌+◌, ◌<◌, ℕ, false, get_or}
use Rattle.std.specs.Ordering.{int_cmp, is_eq}
use Rattle.inputs.specs.declared.ascent.Keyed.{Keyed}
use Rattle.inputs.proofs.ascent.are_keys_apart.Given as goal

-- no two neighbours so far have one number
abbrev pub invariant-loop-i : goal.invariant-loop-i
invariant-loop-i l = (k : ℕ) (d : Keyed) → k + 1 < l.i → is_eq (int_cmp (get_or l.keyed k d).key (get_or l.keyed (k + 1) d).key) ≡ false
