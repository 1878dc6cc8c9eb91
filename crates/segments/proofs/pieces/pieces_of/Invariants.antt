use Rattle.std.proofs.Common.{◌≡◌, drop, map}
use Rattle.segments.specs.Pieces.{piece_now, pieces_of}
use Rattle.segments.proofs.SegmentLemmas.{with_pieces}
use Rattle.segments.proofs.pieces.pieces_of.Given as goal

abbrev pub invariant-loop-file : goal.invariant-loop-file
invariant-loop-file l =
    with_pieces (map piece_now l.pieces.items) (pieces_of l.head (map (λ f. f.now) (drop l.file-index l.files)))
    ≡ pieces_of l.head (map (λ f. f.now) l.files)
