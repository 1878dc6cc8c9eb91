use Rattle.std.proofs.Common.{◌≡◌, ◌≤◌, drop, length}
use Rattle.segments.specs.Ends.{frames_len}
use Rattle.segments.proofs.ends.last_with_frames.Given as goal

abbrev pub invariant-loop-place : goal.invariant-loop-place
invariant-loop-place l = record {
  within : l.place ≤ length l.files;
  behind : frames_len (drop l.place l.files) ≡ 0;
  some : l.place ≡ 0 → length l.files ≡ 0;
}

abbrev pub decreases-loop-place : goal.decreases-loop-place
decreases-loop-place l = l.place
