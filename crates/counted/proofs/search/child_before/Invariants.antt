use Rattle.std.proofs.Common.{◌≡◌, ◌+◌, ◌-◌, ◌<◌, ◌≤◌, true, false, length, take}
use Rattle.std.specs.Prelude.{ℤ, ◌+ℤ◌, IsSome}
use Rattle.counted.specs.Search.{is_before, Begins, IsUp}
use Rattle.counted.specs.Shapes.{all_items}
use Rattle.counted.specs.Sums.{total}
use Rattle.counted.proofs.search.child_before.Given as goal

-- the child at `low` begins before what is looked for, and that at `high` does not
abbrev pub invariant-loop-low : goal.invariant-loop-low
invariant-loop-low g l = record {
  within : l.low < l.high;
  short : l.high ≤ length l.children;
  low : 1 ≤ l.low → Begins (is_before (g.P.Probe.stand l.probe) l.target) l.shift l.children l.low true;
  high : l.high < length l.children → Begins (is_before (g.P.Probe.stand l.probe) l.target) l.shift l.children l.high false;
  up : IsUp l.target l.up (total (all_items (take (l.low + 1) l.children)) +ℤ l.shift);
  steps : ((weight : ℤ) → IsSome (g.P.Probe.by_weight l.probe weight)) → l.steps ≡ l.fn.steps;
}

abbrev pub decreases-loop-low : goal.decreases-loop-low
decreases-loop-low g l = l.high - l.low
