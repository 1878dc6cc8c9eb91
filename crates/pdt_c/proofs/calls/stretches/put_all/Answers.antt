use Rattle.std.proofs.Common.{◌≡◌, ◌∙◌, refl, arith}
use Rattle.std.proofs.lemmas.List.{length-set}
use Rattle.pdt_c.proofs.SpanLemmas.{byte_past, put_byte}
use Rattle.pdt_c.proofs.calls.stretches.put_all.Goals as goal

pub loop-col-preserved : goal.loop-col-preserved
loop-col-preserved c =
    let out = c.loop-col.own in
    let col = c.loop-col.col in
    let byte = c.args.byte in (
      length-set out col byte ∙ c.loop-col.invariant.0,
      λ j lt. put_byte (λ b. b ≡ byte) out col j byte byte refl (c.loop-col.invariant.1 j) (λ e. refl) lt,
    )

pub returns : goal.returns
returns c =
    byte_past c.loop-col.own c.args.byte
    (λ j lt. c.loop-col.invariant.1 j (omega (arith, lt, c.loop-col.invariant.0, c.loop-col-test.false)))
