use Rattle.std.proofs.Common.{◌≡◌, drop, map}
use Rattle.segments.specs.Pieces.{are_behind, piece_now}
use Rattle.segments.proofs.pieces.are_behind.Given as goal

abbrev pub invariant-loop-piece : goal.invariant-loop-piece
invariant-loop-piece l = are_behind l.newest (map piece_now (drop l.piece-index l.pieces)) ≡ are_behind l.newest (map piece_now l.pieces)
