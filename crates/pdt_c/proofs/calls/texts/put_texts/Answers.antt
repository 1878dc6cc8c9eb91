use Rattle.std.proofs.Common.{◌∙◌, ◌+◌, ◌<◌, List, length, take, ap, arith}
use Rattle.std.specs.Prelude.{ℤ}
use Rattle.pdt_c.proofs.TextLemmas.{length_put, there_more}
use Rattle.pdt_c.proofs.calls.texts.put_texts.Goals as goal

pub loop-i-preserved : goal.loop-i-preserved
loop-i-preserved c =
    let run = c.args.run in
    let done = c.args.done in
    let i = c.loop-i.i in
    let room : done + i < length c.loop-i.lens = omega (arith, c.loop-i.auto.lens, c.loop-i-test.true, c.requires.room) in
    let there = c.put_text.ensures.there in (
      ap (λ (ns : List ℤ). take (done + (i + 1)) ns) c.put_text.ensures.len
          ∙ length_put (take done c.args.lens.now) c.loop-i.lens run.texts.now run.first i done c.get.result.now room
          c.get.ensures.text c.loop-i.invariant.0,
      λ before. there_more done i c.loop-i.texts there.0 c.put_text.new.texts
          (omega (arith, room, c.loop-i.auto.texts, c.loop-i.auto.lens, c.requires.rooms)) there.2 there.1
          (c.loop-i.invariant.1 before),
    )
