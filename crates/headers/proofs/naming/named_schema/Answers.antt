use Rattle.std.proofs.Common.{[], ◌∙◌, refl, arith}
use Rattle.headers.proofs.HeaderLemmas.{names_all, names_step, types_step}
use Rattle.headers.proofs.naming.named_schema.Goals as goal

pub loop-col-preserved : goal.loop-col-preserved
loop-col-preserved c = record {
  named = rw c.in_ok-push.ensures.items (names_step _ (λ n. n.now) c.loop-col.cols.items _ c.args.names.now c.loop-col.col
      (record { ref_ptr = (0, 0); now = [] }) c.loop-col-test.true c.loop-col.invariant.named
      (c.in_ok-from_str.ensures.ok ∙ c.in-Some.ensures.some));
  typed = rw c.in_ok-push.ensures.items (types_step _ c.loop-col.cols.items _ c.args.types.now c.loop-col.col _
      (omega (arith, c.loop-col-test.true, c.if-names-types.false)) c.loop-col.invariant.typed refl);
  names = names_all (λ n. n.now) c.args.names.now c.loop-col.col (record { ref_ptr = (0, 0); now = [] }) c.loop-col-test.true
      c.loop-col.invariant.names c.in-Some.ensures.name;
  within = c.loop-col.invariant.within;
}
