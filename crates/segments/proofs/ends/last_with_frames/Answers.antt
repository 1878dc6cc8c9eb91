use Rattle.std.proofs.Common.{length, arith}
use Rattle.segments.proofs.EndLemmas.{len_drop_all, len_drop_less}
use Rattle.segments.proofs.ends.last_with_frames.Goals as goal

pub loop-place-init : goal.loop-place-init
loop-place-init c = record {
  within = omega arith;
  behind = len_drop_all c.args.files.now (length c.args.files.now) (omega arith);
  some = λ e. e;
}

pub loop-place-preserved : goal.loop-place-preserved
loop-place-preserved c = record {
  within = omega (arith, c.loop-place.invariant.within);
  behind = omega (
    arith,
    c.if-files-place-gt0.false,
    c.loop-place.invariant.behind,
    len_drop_less c.args.files.now c.loop-place.place (record { base = 0; front = 0; len = 0 }) c.loop-place-test.true
        c.loop-place.invariant.within,
  );
  some = λ e. absurd (omega (arith, c.if-place-eq0.false, e));
}
