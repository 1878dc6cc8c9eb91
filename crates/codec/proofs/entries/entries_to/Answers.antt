use Rattle.std.proofs.Common.{◌<◌, length, sym, ◌∙◌, arith}
use Rattle.std.proofs.lemmas.Bool.{eqb-true, eqb-false}
use Rattle.std.proofs.lemmas.Result.{err_from_is_err_and}
use Rattle.codec.specs.Reading.{entries_to}
use Rattle.codec.proofs.LoopLemmas.{entries_none, reads_end, reads_on, reads_fault}
use Rattle.codec.proofs.entries.entries_to.Goals as goal

pub loop-rest-init : goal.loop-rest-init
loop-rest-init c = record {
  left = omega arith;
  read = record {
    most = length c.args.bytes.now;
    enough = omega arith;
    read = rw c.new-entries.ensures.items (entries_none (entries_to c.args.schema.now c.args.end c.args.bytes.now));
  };
}

pub returns-in_err-entry : goal.returns-in_err-entry
returns-in_err-entry c =
    let e = err_from_is_err_and c.from_residual.result c.from_residual.ensures.1 in
    let some : 0 < length c.loop-rest.rest.now = omega (arith, eqb-false _ _ (sym c.is_empty.ensures ∙ c.loop-rest-test.true)) in
    rw (e.1, e.2) (reads_fault c.args.schema.now c.args.end c.loop-rest.rest.now c.loop-rest.entries.items
    (entries_to c.args.schema.now c.args.end c.args.bytes.now) c.loop-rest.invariant.read some c.in_err-entry.field-0.0
    c.in_err-entry.ensures.read)

pub loop-rest-preserved : goal.loop-rest-preserved
loop-rest-preserved c =
    let some : 0 < length c.loop-rest.rest.now = omega (arith, eqb-false _ _ (sym c.is_empty.ensures ∙ c.loop-rest-test.true)) in
    record {
      left = omega (arith, c.in_ok-entry.ensures.shorter, c.loop-rest.invariant.left);
      read =
          rw c.in_ok-push.ensures.items (reads_on c.args.schema.now c.args.end c.loop-rest.rest.now c.loop-rest.entries.items
          (entries_to c.args.schema.now c.args.end c.args.bytes.now) c.loop-rest.invariant.read some c.in_ok-entry.entry
          c.in_ok-entry.after.now c.in_ok-entry.ensures.shorter c.in_ok-entry.ensures.read);
    }

pub returns : goal.returns
returns c =
    reads_end c.args.schema.now c.args.end c.loop-rest.rest.now c.loop-rest.entries.items
    (entries_to c.args.schema.now c.args.end c.args.bytes.now) c.loop-rest.invariant.read
    (eqb-true _ _ (sym c.is_empty.ensures ∙ c.loop-rest-test.false))
