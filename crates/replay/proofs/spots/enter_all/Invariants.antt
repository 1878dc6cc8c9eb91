use Rattle.std.proofs.Common.{◌≡◌, ℕ, ◌++◌, length}
use Rattle.replay.specs.Own.{entered, spots_at}
use Rattle.replay.proofs.spots.enter_all.Given as goal

-- the place has been entered for the tables so far
abbrev pub invariant-loop-rest : goal.invariant-loop-rest
invariant-loop-rest l =
    (table : ℕ) → spots_at (λ v. v.items) l.spots table ++ entered table l.spot l.rest
    ≡ spots_at (λ v. v.items) l.fn.spots table ++ entered table l.spot l.tables

abbrev pub decreases-loop-rest : goal.decreases-loop-rest
decreases-loop-rest l = length l.rest
