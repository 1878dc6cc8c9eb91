use Rattle.std.proofs.Common.{◌≡◌, ◌++◌, drop, map}
use Rattle.segments.specs.Pieces.{frames_of, piece_now}
use Rattle.segments.proofs.pieces.frames_of.Given as goal

abbrev pub invariant-loop-piece : goal.invariant-loop-piece
invariant-loop-piece l =
    l.frames.items ++ frames_of (map piece_now (drop l.piece-index l.pieces)) ≡ frames_of (map piece_now l.pieces)
