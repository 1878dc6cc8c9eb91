use Rattle.std.proofs.Common.{◌<◌, ◌≤◌, length, arith, sym, ◌∙◌}
use Rattle.std.proofs.lemmas.Bool.{eqb-true, eqb-false}
use Rattle.manifest.proofs.NumberLemmas.{digit_more, no_bytes, no_digit, too_great}
use Rattle.manifest.proofs.fields.number_from.Goals as goal

pub returns-then-not-is_ascii_digit-clause-read : goal.returns-then-not-is_ascii_digit-clause-read
returns-then-not-is_ascii_digit-clause-read c =
    let some : 0 < length c.loop-rest.rest.now = omega (arith, eqb-false _ _ (sym c.is_empty.ensures ∙ c.loop-rest-test.true)) in
    sym (no_digit c.args.most c.loop-rest.number c.loop-rest.rest.now some
    (sym c.is_ascii_digit.ensures.value ∙ c.if-not-is_ascii_digit.true)) ∙ c.loop-rest.invariant.read

pub returns-in_default-clause-read : goal.returns-in_default-clause-read
returns-in_default-clause-read c =
    let some : 0 < length c.loop-rest.rest.now = omega (arith, eqb-false _ _ (sym c.is_empty.ensures ∙ c.loop-rest-test.true)) in
    sym (too_great c.args.most c.loop-rest.number c.loop-rest.rest.now some
    (sym c.is_ascii_digit.ensures.value ∙ c.if-not-is_ascii_digit.false) c.in_default.ensures) ∙ c.loop-rest.invariant.read

pub loop-rest-preserved : goal.loop-rest-preserved
loop-rest-preserved c =
    let some : 0 < length c.loop-rest.rest.now = omega (arith, eqb-false _ _ (sym c.is_empty.ensures ∙ c.loop-rest-test.true)) in
    let next = c.in-Some.ensures in
    let small : c.in-Some.next ≤ c.args.most = omega (arith, next.0, next.1) in
    record {
      small = small;
      read = rw c.split_at.ensures.back
          (sym (digit_more c.args.most c.loop-rest.number c.in-Some.next c.loop-rest.rest.now some
          (sym c.is_ascii_digit.ensures.value ∙ c.if-not-is_ascii_digit.false) next.1 small) ∙ c.loop-rest.invariant.read);
    }

pub returns-clause-read : goal.returns-clause-read
returns-clause-read c =
    sym (no_bytes c.args.most c.loop-rest.number c.loop-rest.rest.now (eqb-true _ _ (sym c.is_empty.ensures ∙ c.loop-rest-test.false)))
    ∙ c.loop-rest.invariant.read
