use Rattle.std.proofs.Common.{◌≤◌, length, [], sym, ◌∙◌, arith}
use Rattle.segments.proofs.SegmentLemmas.{damaged_bad, damaged_done, damaged_files, damaged_good, damaged_marks}
use Rattle.segments.proofs.marks.first_damaged.Goals.{then-loop-at-test+else-at-files, else-loop-at-test}
use Rattle.segments.proofs.marks.first_damaged.Goals.{then-at-marks-via-then-at-marks, then-at-marks-via-else-at-marks+then-at-files-2}
use Rattle.segments.proofs.marks.first_damaged.Goals as goal

pub returns-then-not-has_mark : goal.returns-then-not-has_mark
returns-then-not-has_mark c =
    sym (damaged_bad c.args.marks.now c.args.files.now c.loop-at.at _ _ c.loop-at-test.true c.if-at-files.true
    (sym c.has_mark.ensures ∙ c.if-not-has_mark.true)) ∙ c.loop-at.invariant.same

pub loop-at-preserved : goal.loop-at-preserved
loop-at-preserved c = record {
  marks = omega (arith, c.loop-at-test.true);
  files = omega (arith, c.if-at-files.true);
  same = sym (damaged_good c.args.marks.now c.args.files.now c.loop-at.at _ _ c.loop-at-test.true c.if-at-files.true
      (sym c.has_mark.ensures ∙ c.if-not-has_mark.false)) ∙ c.loop-at.invariant.same;
}

pub returns-then-at-marks : goal.returns-then-at-marks
returns-then-at-marks c =
    elim c.then-at-marks.branch [
      | then-at-marks-via-then-at-marks w ↦
          let files : length c.args.files.now ≤ c.loop-at.at = elim c.loop-at-test.branch [
            | then-loop-at-test+else-at-files v ↦ v.if-at-files.false
            | else-loop-at-test v ↦ absurd (omega (arith, v.loop-at-test.false, w.if-at-marks.true))
          ] in
          sym (damaged_marks c.args.marks.now c.args.files.now c.loop-at.at (record { size = 0; check = 0 }) w.if-at-marks.true files)
          ∙ c.loop-at.invariant.same
      | then-at-marks-via-else-at-marks+then-at-files-2 w ↦
          sym (damaged_files c.args.marks.now c.args.files.now c.loop-at.at (record { ref_ptr = (0, 0); now = [] }) w.if-at-marks.false
          w.if-at-files-2.true) ∙ c.loop-at.invariant.same
    ]

pub returns : goal.returns
returns c =
    sym (damaged_done c.args.marks.now c.args.files.now c.loop-at.at c.if-at-marks.false c.if-at-files-2.false) ∙ c.loop-at.invariant.same
