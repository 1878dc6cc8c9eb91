use Rattle.std.proofs.Common.{sym, ◌∙◌, inl, inr, arith}
use Rattle.segments.proofs.EndLemmas.{late, time_done, timely}
use Rattle.segments.proofs.ends.begin_in_time.Goals.{else-file-gt0-via-then-file-gt0+else-file-newest, else-file-gt0-via-else-file-gt0}
use Rattle.segments.proofs.ends.begin_in_time.Goals as goal

pub returns-then-file-newest : goal.returns-then-file-newest
returns-then-file-newest c =
    sym (late c.args.files.now c.loop-file.file-index c.args.newest _ c.loop-file-test.true c.if-file-gt0.true c.if-file-newest.true)
    ∙ c.loop-file.invariant

pub loop-file-preserved : goal.loop-file-preserved
loop-file-preserved c =
    elim c.else-file-gt0.branch [
      | else-file-gt0-via-then-file-gt0+else-file-newest w ↦
          sym (timely c.args.files.now c.loop-file.file-index c.args.newest (record { base = 0; front = 0; len = 0 }) c.loop-file-test.true
          (inr w.if-file-newest.false))
          ∙ c.loop-file.invariant
      | else-file-gt0-via-else-file-gt0 w ↦
          sym (timely c.args.files.now c.loop-file.file-index c.args.newest (record { base = 0; front = 0; len = 0 }) c.loop-file-test.true
          (inl (omega (arith, w.if-file-gt0.false))))
          ∙ c.loop-file.invariant
    ]

pub returns : goal.returns
returns c = sym (time_done c.args.files.now c.loop-file.file-index c.args.newest c.loop-file-test.false) ∙ c.loop-file.invariant
