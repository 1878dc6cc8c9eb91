use Rattle.std.proofs.Common.{◌<◌, length, sym, ◌∙◌, arith}
use Rattle.std.proofs.lemmas.Bool.{eqb-true, eqb-false}
use Rattle.std.proofs.lemmas.Result.{err_from_is_err_and}
use Rattle.codec.specs.Reading.{span_now, spans_in}
use Rattle.codec.specs.Tables.{tables_in}
use Rattle.codec.proofs.TablesLemmas.{lists_end, lists_fault, lists_on, tables_none}
use Rattle.codec.proofs.parts.tables_in.Goals as goal

pub loop-rest-init : goal.loop-rest-init
loop-rest-init c = record {
  left = omega arith;
  read = record {
    most = length c.args.payload.now;
    enough = omega arith;
    read = rw c.new-tables.ensures.items (tables_none (spans_in c.args.payload.now));
  };
}

pub returns-in_err-part : goal.returns-in_err-part
returns-in_err-part c =
    let e = err_from_is_err_and c.from_residual.result c.from_residual.ensures.1 in
    let some : 0 < length c.loop-rest.rest.now = omega (arith, eqb-false _ _ (sym c.is_empty.ensures ∙ c.loop-rest-test.true)) in
    rw (e.1, e.2) (lists_fault (length c.args.payload.now) c.loop-rest.low c.loop-rest.rest.now c.loop-rest.tables.items
    (tables_in c.args.payload.now) c.loop-rest.invariant.read some c.in_err-part.field-0.0 c.in_err-part.ensures.read)

pub loop-rest-preserved : goal.loop-rest-preserved
loop-rest-preserved c =
    let some : 0 < length c.loop-rest.rest.now = omega (arith, eqb-false _ _ (sym c.is_empty.ensures ∙ c.loop-rest-test.true)) in
    record {
      left = omega (arith, c.in_ok-part.ensures.shorter, c.loop-rest.invariant.left);
      read =
          rw c.in_ok-push.ensures.items (lists_on (length c.args.payload.now) c.loop-rest.low c.loop-rest.rest.now c.loop-rest.tables.items
          (tables_in c.args.payload.now) c.loop-rest.invariant.read some (span_now c.in_ok-part.part)
          c.in_ok-part.after.now c.in_ok-part.ensures.shorter c.in_ok-part.ensures.read);
    }

pub returns : goal.returns
returns c =
    lists_end (length c.args.payload.now) c.loop-rest.low c.loop-rest.rest.now c.loop-rest.tables.items
    (tables_in c.args.payload.now) c.loop-rest.invariant.read
    (eqb-true _ _ (sym c.is_empty.ensures ∙ c.loop-rest-test.false))
