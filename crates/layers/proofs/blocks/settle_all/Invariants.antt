use Rattle.std.proofs.Common.{◌≡◌, ℕ, ◌/◌, ◌<◌}
use Rattle.layers.specs.Shifts.{no_shift, shift_at, shifted_entries}
use Rattle.layers.proofs.blocks.settle_all.Given as goal

-- so many blocks have no shift
abbrev pub invariant-loop-block : goal.invariant-loop-block
invariant-loop-block l = record {
  same : shifted_entries l.shifts l.entries ≡ shifted_entries l.fn.shifts l.fn.entries;
  none : (j : ℕ) → j / 256 < l.block → shift_at l.shifts j ≡ no_shift;
}
