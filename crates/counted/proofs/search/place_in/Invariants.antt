use Rattle.std.proofs.Common.{◌≡◌, ℕ, ◌+◌, ◌-◌, ◌<◌, ◌≤◌, true, false, length, take, get_or}
use Rattle.std.specs.Prelude.{◌+ℤ◌}
use Rattle.model.specs.declared.entry.Entry.{Entry}
use Rattle.counted.specs.Search.{is_before, IsUp}
use Rattle.counted.specs.Sums.{total}
use Rattle.counted.proofs.search.place_in.Given as goal

-- the entry before `low` stands before what is looked for, and that at `high` does not
abbrev pub invariant-loop-low : goal.invariant-loop-low
invariant-loop-low g l = record {
  within : l.low ≤ l.high;
  short : l.high ≤ length l.entries;
  low : (m : ℕ) (d : Entry) → m + 1 ≡ l.low
      → is_before (g.P.Probe.stand l.probe) l.target (get_or l.entries m d) (total (take m l.entries) +ℤ l.shift) ≡ true;
  high : (d : Entry) → l.high < length l.entries
      → is_before (g.P.Probe.stand l.probe) l.target (get_or l.entries l.high d) (total (take l.high l.entries) +ℤ l.shift) ≡ false;
  up : IsUp l.target l.up (total (take l.low l.entries) +ℤ l.shift);
}

abbrev pub decreases-loop-low : goal.decreases-loop-low
decreases-loop-low g l = l.high - l.low
