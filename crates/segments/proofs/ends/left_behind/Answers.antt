use Rattle.std.proofs.Common.{◌+◌, arith}
use Rattle.segments.specs.Ends.{frames_len}
use Rattle.segments.proofs.EndLemmas.{len_split, len_take_more}
use Rattle.segments.proofs.ends.left_behind.Goals as goal

pub loop-file-init : goal.loop-file-init
unfolding frames_len
loop-file-init c = omega arith

pub returns-in_err-left-clause-none : goal.returns-in_err-left-clause-none
returns-in_err-left-clause-none c =
    grind (
      arith,
      c.loop-file.invariant,
      c.checked_sub.ensures,
      c.in_err-left.was,
      len_take_more c.args.files.now c.loop-file.file-index (record { base = 0; front = 0; len = 0 }) c.loop-file-test.true,
      len_split c.args.files.now (c.loop-file.file-index + 1),
    )

pub loop-file-preserved : goal.loop-file-preserved
loop-file-preserved c =
    grind (
      arith,
      c.loop-file.invariant,
      c.checked_sub.ensures,
      c.in_ok-left.was,
      len_take_more c.args.files.now c.loop-file.file-index (record { base = 0; front = 0; len = 0 }) c.loop-file-test.true,
    )
