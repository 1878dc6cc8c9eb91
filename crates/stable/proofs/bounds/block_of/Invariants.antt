use Rattle.std.proofs.Common.{◌≡◌, ℕ, ◌+◌, ◌-◌, ◌*◌, ◌/◌, ◌<◌, ◌≤◌, true, false}
use Rattle.stable.specs.Bounds.{is_before, value_at}
use Rattle.stable.proofs.bounds.block_of.Given as goal

-- the values before block `first` are below the cell, and those from block `after` on are not
abbrev pub invariant-loop-first : goal.invariant-loop-first
invariant-loop-first l = record {
  begun : l.start / 1024 ≤ l.first;
  ordered : l.first < l.after;
  within : l.after ≤ (l.stop + 1023) / 1024;
  before : (k : ℕ) → l.start ≤ k → k < 1024 * l.first → is_before l.cell (value_at l.column.values k) ≡ true;
  past : (k : ℕ) → 1024 * l.after ≤ k → k < l.stop → is_before l.cell (value_at l.column.values k) ≡ false;
}

abbrev pub decreases-loop-first : goal.decreases-loop-first
decreases-loop-first l = l.after - l.first
