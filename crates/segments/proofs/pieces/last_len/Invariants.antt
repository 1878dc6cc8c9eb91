use Rattle.std.proofs.Common.{◌≡◌, drop, map}
use Rattle.segments.specs.Pieces.{last_len, piece_now}
use Rattle.segments.proofs.pieces.last_len.Given as goal

abbrev pub invariant-loop-piece : goal.invariant-loop-piece
invariant-loop-piece l = last_len l.found (map piece_now (drop l.piece-index l.pieces)) ≡ last_len 0 (map piece_now l.pieces)
