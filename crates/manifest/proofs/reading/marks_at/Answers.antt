use Rattle.std.proofs.Common.{sym, ap, ◌∙◌}
use Rattle.manifest.specs.Reading.{marks_at, seen}
use Rattle.manifest.proofs.LoopLemmas.{mark_fails, mark_more, marks_done}
use Rattle.manifest.proofs.reading.marks_at.Goals as goal

pub returns-in_default : goal.returns-in_default
returns-in_default c =
    mark_fails c.loop.marks.items c.args.count c.loop.counter c.loop.rest.now (marks_at c.args.count c.args.bytes.now) c.loop.invariant
    c.loop-test.true (sym c.mark_at.ensures ∙ ap (seen (λ m. m)) c.in_default.is)

pub loop-preserved : goal.loop-preserved
loop-preserved c =
    rw c.in_ok-push.ensures.items
    (mark_more c.loop.marks.items c.args.count c.loop.counter c.loop.rest.now (marks_at c.args.count c.args.bytes.now) c.loop.invariant
    c.in-Some.mark c.in-Some.after.now c.loop-test.true (sym c.mark_at.ensures ∙ ap (seen (λ m. m)) c.in-Some.is))

pub returns : goal.returns
returns c =
    marks_done c.loop.marks.items c.args.count c.loop.counter c.loop.rest.now (marks_at c.args.count c.args.bytes.now) c.loop.invariant
    c.loop-test.false
