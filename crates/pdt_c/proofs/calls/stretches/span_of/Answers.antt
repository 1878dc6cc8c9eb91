use Rattle.std.proofs.Common.{sym, subst}
use Rattle.merge.specs.declared.stretch.Stretch.{Stretch}
use Rattle.pdt_c.specs.Spans.{IsSpanOf}
use Rattle.pdt_c.specs.declared.calls.stretches.TheConstants.{CHANGED}
use Rattle.pdt_c.proofs.SpanLemmas.{changed_span}
use Rattle.pdt_c.proofs.calls.stretches.span_of.Goals as goal

pub returns-in-Some : goal.returns-in-Some
returns-in-Some c =
    let sid = c.in-Some.sid in
    subst (λ (x : Stretch). IsSpanOf x c.args.position (record { position = c.args.position; rows = 1; sid = sid; source = CHANGED }))
    (sym c.in-Row.is) (changed_span c.in-Row.view c.args.position sid c.in-Some.ensures.over)
