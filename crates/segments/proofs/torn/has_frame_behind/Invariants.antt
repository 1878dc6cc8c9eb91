use Rattle.std.proofs.Common.{◌≡◌, ◌≤◌, ◌<◌, ◌-◌, ℕ, false, drop, length}
use Rattle.segments.specs.Torn.{has_frame}
use Rattle.segments.proofs.torn.has_frame_behind.Given as goal

abbrev pub invariant-loop-at : goal.invariant-loop-at
invariant-loop-at l = record {
  first : 1 ≤ l.at;
  none : (at : ℕ) → 1 ≤ at → at < l.at → has_frame l.seed l.newest (drop at l.torn) ≡ false;
}

abbrev pub decreases-loop-at : goal.decreases-loop-at
decreases-loop-at l = length l.torn - l.at
