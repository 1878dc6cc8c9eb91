use Rattle.std.proofs.Common.{sym, ◌∙◌}
use Rattle.segments.proofs.SegmentLemmas.{behind_done, behind_none, behind_not, behind_some}
use Rattle.segments.proofs.pieces.are_behind.Goals.{in-Some+else-base-newest, in_default}
use Rattle.segments.proofs.pieces.are_behind.Goals as goal

pub returns-then-base-newest : goal.returns-then-base-newest
returns-then-base-newest c =
    sym (behind_not c.args.pieces.now c.loop-piece.piece-index c.args.newest c.in-Some.base _ c.loop-piece-test.true c.in-Some.is
    c.if-base-newest.true) ∙ c.loop-piece.invariant

pub loop-piece-preserved : goal.loop-piece-preserved
loop-piece-preserved c =
    elim c.match-piece.branch [
      | in-Some+else-base-newest w ↦
          sym (behind_some c.args.pieces.now c.loop-piece.piece-index c.args.newest w.in-Some.base _ c.loop-piece-test.true w.in-Some.is
          w.if-base-newest.false) ∙ c.loop-piece.invariant
      | in_default w ↦
          sym (behind_none c.args.pieces.now c.loop-piece.piece-index c.args.newest _ c.loop-piece-test.true w.in_default.is)
          ∙ c.loop-piece.invariant
    ]

pub returns : goal.returns
returns c = sym (behind_done c.args.pieces.now c.loop-piece.piece-index c.args.newest c.loop-piece-test.false) ∙ c.loop-piece.invariant
