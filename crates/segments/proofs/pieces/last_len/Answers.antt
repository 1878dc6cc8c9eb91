use Rattle.std.proofs.Common.{sym, ap, ◌∙◌, map, drop, ◌+◌, ℕ}
use Rattle.segments.specs.Pieces.{last_len, piece_now}
use Rattle.segments.proofs.SegmentLemmas.{last_done, last_found, last_kept}
use Rattle.segments.proofs.pieces.last_len.Goals.{then-not-is_empty, else-not-is_empty}
use Rattle.segments.proofs.pieces.last_len.Goals as goal

pub loop-piece-preserved : goal.loop-piece-preserved
loop-piece-preserved c =
    let left = map piece_now (drop (c.loop-piece.piece-index + 1) c.args.pieces.now) in
    elim c.if-not-is_empty.branch [
      | then-not-is_empty w ↦
          ap (λ (n : ℕ). last_len n left) w.found-is
          ∙ sym (last_found c.args.pieces.now c.loop-piece.piece-index c.loop-piece.found _ c.loop-piece-test.true
          (sym c.is_empty.ensures ∙ w.if-not-is_empty.true)) ∙ c.loop-piece.invariant
      | else-not-is_empty w ↦
          ap (λ (n : ℕ). last_len n left) w.found-is
          ∙ sym (last_kept c.args.pieces.now c.loop-piece.piece-index c.loop-piece.found _ c.loop-piece-test.true
          (sym c.is_empty.ensures ∙ w.if-not-is_empty.false)) ∙ c.loop-piece.invariant
    ]

pub returns : goal.returns
returns c =
    sym (last_done c.args.pieces.now c.loop-piece.piece-index c.loop-piece.found c.loop-piece-test.false) ∙ c.loop-piece.invariant
