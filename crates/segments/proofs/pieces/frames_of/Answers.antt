use Rattle.std.proofs.Common.{◌++◌, sym, ap, ◌∙◌, map, List, ℕ}
use Rattle.std.proofs.lemmas.List.{append-nil}
use Rattle.segments.specs.Pieces.{frames_of, piece_now}
use Rattle.segments.proofs.SegmentLemmas.{frames_done, frames_step}
use Rattle.segments.proofs.pieces.frames_of.Goals as goal

pub loop-piece-preserved : goal.loop-piece-preserved
loop-piece-preserved c =
    frames_step c.args.pieces.now c.loop-piece.piece-index c.loop-piece.frames.items c.extend_from_slice.new.self.items
    (frames_of (map piece_now c.args.pieces.now)) _ c.loop-piece-test.true c.in_ok-extend_from_slice.ensures.items c.loop-piece.invariant

pub returns : goal.returns
returns c =
    sym (append-nil c.loop-piece.frames.items)
    ∙ ap (λ (r : List ℕ). c.loop-piece.frames.items ++ r) (sym (frames_done c.args.pieces.now c.loop-piece.piece-index c.loop-piece-test.false))
    ∙ c.loop-piece.invariant
