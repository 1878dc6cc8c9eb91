use Rattle.manifest.proofs.NumberLemmas.{end_found, end_more, end_none, end_zero}
use Rattle.manifest.proofs.fields.line_end.Goals as goal
use Rattle.std.proofs.Common.{arith}

pub returns-then-bytes-at-eq-LINE_FEED-clause-read : goal.returns-then-bytes-at-eq-LINE_FEED-clause-read
returns-then-bytes-at-eq-LINE_FEED-clause-read c =
    end_found c.args.bytes.now c.loop-at.at c.loop-at.invariant.read c.loop-at-test.true c.if-bytes-at-eq-LINE_FEED.true

pub returns-then-bytes-at-eq0-clause-read : goal.returns-then-bytes-at-eq0-clause-read
returns-then-bytes-at-eq0-clause-read c =
    end_zero c.args.bytes.now c.loop-at.at c.loop-at.invariant.read c.loop-at-test.true c.if-bytes-at-eq-LINE_FEED.false c.if-bytes-at-eq0.true

pub loop-at-preserved : goal.loop-at-preserved
loop-at-preserved c = record {
  within = omega (arith, c.loop-at-test.true);
  read = end_more c.args.bytes.now c.loop-at.at c.loop-at.invariant.read c.loop-at-test.true c.if-bytes-at-eq-LINE_FEED.false c.if-bytes-at-eq0.false;
}

pub returns-clause-read : goal.returns-clause-read
returns-clause-read c = end_none c.args.bytes.now c.loop-at.at c.loop-at.invariant.read c.loop-at-test.false
