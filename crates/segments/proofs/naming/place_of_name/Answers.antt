use Rattle.std.proofs.Common.{sym, ap, ◌∙◌, arith, get_or}
use Rattle.std.specs.Str.{bytes_eq}
use Rattle.segments.proofs.SegmentLemmas.{place_done, place_here, place_later}
use Rattle.segments.proofs.naming.place_of_name.Goals as goal

pub returns-then-eq-clause-place : goal.returns-then-eq-clause-place
returns-then-eq-clause-place c =
    sym (place_here c.args.name.now c.args.tables.now c.loop-at.at c.index-tables-at.result c.loop-at-test.true
    (ap (bytes_eq (get_or c.args.tables.now c.loop-at.at c.index-tables-at.result).line.name.now) (sym c.as_bytes.ensures.value)
    ∙ sym c.eq.ensures ∙ c.if-eq.true)) ∙ c.loop-at.invariant.same

pub loop-at-preserved : goal.loop-at-preserved
loop-at-preserved c = record {
  within = omega (arith, c.loop-at-test.true);
  same = sym (place_later c.args.name.now c.args.tables.now c.loop-at.at c.index-tables-at.result c.loop-at-test.true
      (ap (bytes_eq (get_or c.args.tables.now c.loop-at.at c.index-tables-at.result).line.name.now) (sym c.as_bytes.ensures.value)
      ∙ sym c.eq.ensures ∙ c.if-eq.false)) ∙ c.loop-at.invariant.same;
}

pub returns-clause-place : goal.returns-clause-place
returns-clause-place c = sym (place_done c.args.name.now c.args.tables.now c.loop-at.at c.loop-at-test.false) ∙ c.loop-at.invariant.same
