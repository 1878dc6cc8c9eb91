use Rattle.std.proofs.Common.{◌≡◌, ◌+◌, ◌++◌, ◌∷◌, [], Bool, List, take, drop, ap, ◌∙◌, arith}
use Rattle.blocks.specs.Payload.{byte_count, packed}
use Rattle.blocks.proofs.BitsLemmas.{length-packed}
use Rattle.blocks.proofs.RunLemmas.{run_more, length-with_run}
use Rattle.blocks.proofs.bits.add_run.Goals as goal
use Rattle.std.proofs.lemmas.Grind.{common_steps}

pub overflow_sub-room : goal.overflow_sub-room
overflow_sub-room c = grind (arith, common_steps, c.requires.packed, c.len.ensures, c.byte_count.ensures, length-packed)

pub loop-i-preserved : goal.loop-i-preserved
loop-i-preserved c =
    let others = c.args.others.now in
    let i = c.loop-i.i in
    let next : c.args.count + i + 1 ≡ c.args.count + (i + 1) = omega arith in
    record {
      spelt = λ (bs : List Bool) is packs.
          c.in_ok-add_bit.ensures.ok (bs ++ take i (drop c.args.start others))
          (length-with_run bs others c.args.start i (omega (arith, c.requires.within, c.loop-i-test.true)) ∙ ap (λ n. n + i) is)
          (c.loop-i.invariant.spelt bs is packs)
          ∙ ap (λ n. packed (byte_count n) ((bs ++ take i (drop c.args.start others)) ++ c.get.result ∷ [])) next
          ∙ ap (packed (byte_count (c.args.count + (i + 1)))) (run_more bs others c.args.start i c.get.result c.get.ensures);
      room = omega (arith, c.loop-i.invariant.room, c.in_ok-add_bit.ensures.capacity);
    }
