use Rattle.std.proofs.Common.{◌≡◌, ◌≤◌, ◌-◌, drop, map, length}
use Rattle.segments.specs.Marks.{first_damaged}
use Rattle.segments.proofs.marks.first_damaged.Given as goal

abbrev pub invariant-loop-at : goal.invariant-loop-at
invariant-loop-at l = record {
  marks : l.at ≤ length l.marks;
  files : l.at ≤ length l.files;
  same : first_damaged l.at (drop l.at l.marks) (map (λ f. f.now) (drop l.at l.files)) ≡ first_damaged 0 l.marks (map (λ f. f.now) l.files);
}

abbrev pub decreases-loop-at : goal.decreases-loop-at
decreases-loop-at l = length l.marks - l.at
