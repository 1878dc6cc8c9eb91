use Rattle.std.proofs.Common.{◌-◌, ℕ, T, ◌≤◌, length, nat_lt, take}
use Rattle.std.specs.List.{list_all}
use Rattle.model.specs.Entries.{are_ordered}
use Rattle.layers.specs.Shifts.{shifted_entries}
use Rattle.layers.proofs.blocks.count_below.Given as goal

-- so many stand below
abbrev pub invariant-loop-low : goal.invariant-loop-low
invariant-loop-low l = record {
  order : l.low ≤ l.high;
  within : l.high ≤ length l.entries;
  below : (key_cols : ℕ) → T (are_ordered key_cols (shifted_entries l.shifts l.entries))
      → T (list_all (λ e. nat_lt e.sid l.fn.sid) (take l.low (shifted_entries l.shifts l.entries)));
}

abbrev pub decreases-loop-low : goal.decreases-loop-low
decreases-loop-low l = l.high - l.low
