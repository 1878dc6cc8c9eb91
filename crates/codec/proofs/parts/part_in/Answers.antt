use Rattle.std.proofs.Common.{◌<◌, length, refl, sym, ◌∙◌, arith}
use Rattle.std.proofs.lemmas.Bool.{eqb-true, eqb-false, eq-eqb, ne_eqb}
use Rattle.std.proofs.lemmas.Result.{err_from_is_err_and}
use Rattle.codec.specs.Reading.{maybe_span, span_in, span_now}
use Rattle.codec.proofs.LoopLemmas.{scans_end, scans_on, scans_fault}
use Rattle.codec.proofs.parts.part_in.Goals as goal

pub loop-rest-init : goal.loop-rest-init
loop-rest-init c = record {
  left = omega arith;
  within = tt;
  read = record { most = length c.args.payload.now; enough = omega arith; read = refl };
}

pub returns-in_err-part-clause-read : goal.returns-in_err-part-clause-read
returns-in_err-part-clause-read c =
    let e = err_from_is_err_and c.from_residual.result c.from_residual.ensures.1 in
    let some : 0 < length c.loop-rest.rest.now = omega (arith, eqb-false _ _ (sym c.is_empty.ensures ∙ c.loop-rest-test.true)) in
    rw (e.1, e.2) (scans_fault c.args.table (length c.args.payload.now) c.loop-rest.low c.loop-rest.rest.now (maybe_span c.loop-rest.found)
    (span_in c.args.table c.args.payload.now) c.loop-rest.invariant.read some c.in_err-part.field-0.0 c.in_err-part.ensures.read)

pub loop-rest-preserved-then-part-table : goal.loop-rest-preserved-then-part-table
loop-rest-preserved-then-part-table c =
    let some : 0 < length c.loop-rest.rest.now = omega (arith, eqb-false _ _ (sym c.is_empty.ensures ∙ c.loop-rest-test.true)) in
    let span = span_now c.in_ok-part.part in
    let on = scans_on c.args.table (length c.args.payload.now) c.loop-rest.low c.loop-rest.rest.now (maybe_span c.loop-rest.found)
    (span_in c.args.table c.args.payload.now) c.loop-rest.invariant.read some span c.in_ok-part.after.now c.in_ok-part.ensures.shorter
    c.in_ok-part.ensures.read in
    record {
      left = omega (arith, c.in_ok-part.ensures.shorter, c.loop-rest.invariant.left);
      within = c.in_ok-part.ensures.within;
      read = rw (eq-eqb span.table c.args.table (omega (arith, c.if-part-table.true))) at on;
    }

pub loop-rest-preserved : goal.loop-rest-preserved
loop-rest-preserved c =
    let some : 0 < length c.loop-rest.rest.now = omega (arith, eqb-false _ _ (sym c.is_empty.ensures ∙ c.loop-rest-test.true)) in
    let span = span_now c.in_ok-part.part in
    let on = scans_on c.args.table (length c.args.payload.now) c.loop-rest.low c.loop-rest.rest.now (maybe_span c.loop-rest.found)
    (span_in c.args.table c.args.payload.now) c.loop-rest.invariant.read some span c.in_ok-part.after.now c.in_ok-part.ensures.shorter
    c.in_ok-part.ensures.read in
    record {
      left = omega (arith, c.in_ok-part.ensures.shorter, c.loop-rest.invariant.left);
      within = c.loop-rest.invariant.within;
      read = rw (ne_eqb span.table c.args.table c.if-part-table.false) at on;
    }

pub returns-clause-read : goal.returns-clause-read
returns-clause-read c =
    scans_end c.args.table (length c.args.payload.now) c.loop-rest.low c.loop-rest.rest.now (maybe_span c.loop-rest.found)
    (span_in c.args.table c.args.payload.now) c.loop-rest.invariant.read
    (eqb-true _ _ (sym c.is_empty.ensures ∙ c.loop-rest-test.false))
