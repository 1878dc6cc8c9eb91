use Rattle.std.proofs.Common.{◌≡◌, ℕ, ◌+◌, ◌<◌, ◌^◌, ◌++◌, length, map}
use Rattle.journal.specs.Reading.{logged_in}
use Rattle.replay.specs.Own.{size_of, spots_at, spots_in}
use Rattle.replay.proofs.spots.spots_in.Given as goal

-- the places so far, with those of the frames that are left, are all, for each table
abbrev pub invariant-loop-rest : goal.invariant-loop-rest
invariant-loop-rest l =
    ((table : ℕ) → spots_at (λ v. v.items) l.spots table ++ spots_in table l.at (map logged_in l.rest)
    ≡ spots_in table 0 (map logged_in l.frames))
    × (l.at + size_of (map logged_in l.rest) < 2 ^ 63)

abbrev pub decreases-loop-rest : goal.decreases-loop-rest
decreases-loop-rest l = length l.rest
