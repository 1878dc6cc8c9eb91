use Rattle.std.proofs.Common.{◌≡◌, ◌≢◌, ◌∙◌, refl, sym, subst, arith}
use Rattle.std.specs.Prelude.{slice_get}
use Rattle.std.proofs.lemmas.List.{length-set}
use Rattle.merge.specs.View.{row_over, source_over}
use Rattle.pdt_c.proofs.SpanLemmas.{put_byte}
use Rattle.pdt_c.proofs.calls.stretches.put_own.Goals as goal

pub loop-col-preserved : goal.loop-col-preserved
loop-col-preserved c =
    let view = c.args.view.now in
    let out = c.loop-col.own in
    let col = c.loop-col.col in
    let byte = c.byte_of.result in (
      length-set out col byte ∙ c.loop-col.invariant.0,
      λ base j lt.
          put_byte (λ b. b ≡ 0 → slice_get (row_over base view) j ≡ slice_get (source_over base view.source) j) out col j byte 1
          (λ no. absurd (omega (arith, no)))
          (c.loop-col.invariant.1 base j)
          (λ at unset. subst (λ k. slice_get (row_over base view) k ≡ slice_get (source_over base view.source) k) (sym at)
          (c.is_modified.ensures.kept (c.byte_of.ensures.unset unset) base))
          lt,
      λ base other wide j lt.
          put_byte (λ b. b ≢ 0 → slice_get (row_over base view) j ≡ slice_get (row_over other view) j) out col j byte 0
          (λ no. absurd (no refl))
          (c.loop-col.invariant.2 base other wide j)
          (λ at set. subst (λ k. slice_get (row_over base view) k ≡ slice_get (row_over other view) k) (sym at)
          (c.is_modified.ensures.own (c.byte_of.ensures.set set) base other wide))
          lt,
    )
