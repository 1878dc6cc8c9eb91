use Rattle.std.proofs.Common.{◌≡◌, ◌++◌, length, map}
use Rattle.journal.specs.Reading.{logged_in}
use Rattle.replay.specs.Own.{AreWithin, frames_after}
use Rattle.replay.proofs.spots.frames_after.Given as goal

-- the frames so far, with those of the places that are left, are all
abbrev pub invariant-loop-rest : goal.invariant-loop-rest
invariant-loop-rest l =
    (map logged_in l.own.items ++ frames_after l.bytes l.number l.rest ≡ frames_after l.bytes l.number l.spots)
    × AreWithin (length l.bytes) l.rest

abbrev pub decreases-loop-rest : goal.decreases-loop-rest
decreases-loop-rest l = length l.rest
