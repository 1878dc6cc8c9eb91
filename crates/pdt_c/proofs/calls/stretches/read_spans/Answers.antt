use Rattle.std.proofs.Common.{◌∙◌, ◌+◌, ◌<◌, List, [], ◌∷◌, ◌++◌, length, take, ap, sym, subst, arith}
use Rattle.std.specs.Prelude.{min}
use Rattle.std.proofs.lemmas.List.{length-set, take_more_set}
use Rattle.merge.specs.Image.{Stack, image_rows}
use Rattle.merge.specs.Placed.{Placed}
use Rattle.txn.specs.Txn.{image_of}
use Rattle.pdt_c.specs.Spans.{AreSpans, IsSpanOf}
use Rattle.pdt_c.specs.declared.calls.stretches.Span.{Span}
use Rattle.pdt_c.proofs.SpanLemmas.{is_span, spans_more}
use Rattle.pdt_c.proofs.calls.stretches.read_spans.Goals as goal

pub loop-stretch-preserved : goal.loop-stretch-preserved
loop-stretch-preserved c =
    let inv = c.loop-stretch.invariant in
    let old = c.loop-stretch.stretch-iterator in
    let new = c.next.new.self in
    let p = c.in-Some.ensures.steps in
    let span = c.span_of-span.result in
    let out = c.loop-stretch.out in
    let count = c.loop-stretch.count in
    let position = c.loop-stretch.position in
    let rows = length (image_of c.args.txn.now) in
    let room : count < length out = omega (arith, c.if-count-out.false) in
    let is = is_span old new c.in-Some.stretch p span (subst (λ n. IsSpanOf c.in-Some.stretch n span) inv.3 c.span_of-span.ensures) in
    let more = spans_more old.stack (min c.args.from rows) (take count out) position span inv.4 c.span_of-span.ensures.position_is is in (
      length-set out count span ∙ inv.0,
      omega (arith, inv.0, c.if-count-out.false),
      ap (λ (x : Placed). image_rows x.stack) p.moved ∙ inv.2,
      omega (arith, c.span_of-span.ensures.rows_are, inv.3, ap (λ (x : Placed). x.rid) p.moved),
      subst (λ (spans : List Span). AreSpans new.stack (min c.args.from rows) spans (position + span.rows))
          (sym (take_more_set out count span room))
          (subst (λ (s : Stack). AreSpans s (min c.args.from rows) (take count out ++ span ∷ []) (position + span.rows)) (sym (ap (λ (x : Placed). x.stack) p.moved)) more),
      omega (arith, inv.5, c.span_of-span.ensures.rows_are, p.few, ap (λ (x : Placed). x.left) p.moved),
    )
