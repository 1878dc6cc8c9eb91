use Rattle.std.proofs.Common.{◌-◌, ◌<◌, ◌≤◌, ℕ, map}
use Rattle.segments.specs.Listing.{HasFile}
use Rattle.segments.proofs.listing.last_file.Given as goal

abbrev pub invariant-loop-number : goal.invariant-loop-number
invariant-loop-number l = record {
  in_turn : l.first ≤ l.number;
  within : l.number ≤ l.last;
  before : (n : ℕ) → l.first ≤ n → n < l.number → HasFile (map (λ n. n.now) l.names) n;
}

abbrev pub decreases-loop-number : goal.decreases-loop-number
decreases-loop-number l = l.last - l.number
