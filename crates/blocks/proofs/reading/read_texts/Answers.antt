use Rattle.std.proofs.Common.{◌≡◌, ◌+◌, ◌-◌, ◌++◌, ◌∷◌, [], length, map, ap, ◌∙◌, arith}
use Rattle.std.proofs.lemmas.List.{map_push, length_push}
use Rattle.values.specs.declared.value.Value.TheVariants.{Text}
use Rattle.blocks.specs.Reading.{texts_at}
use Rattle.blocks.proofs.TextsLemmas.{text_measured}
use Rattle.blocks.proofs.ReadLemmas.{reads_on, fails_on}
use Rattle.blocks.proofs.reading.read_texts.Goals as goal
use Rattle.std.proofs.lemmas.Grind.{common_steps}

pub push-requires-clause-short : goal.push-requires-clause-short
push-requires-clause-short c = grind (arith, common_steps, c.in_ok-text.ensures, text_measured)

pub loop-i-preserved : goal.loop-i-preserved
loop-i-preserved c =
    let at = length c.args.bytes.now - length c.loop-i.rest.now in
    let t = c.in_ok-text.text.now in
    let rest = c.in_ok-text.after.now in
    let measured = text_measured c.loop-i.i at c.loop-i.rest.now t rest c.in_ok-text.ensures in
    let so_far = c.loop-i.invariant in
    let pushed : map Text c.push.new.self ≡ map Text c.loop-i.texts ++ Text t ∷ [] =
    ap (map Text) c.in_ok-push.ensures.ok ∙ map_push Text c.loop-i.texts t in
    let place : length c.args.bytes.now - length rest ≡ at + 2 + length t = omega (arith, measured.counted, so_far.left) in
    record {
      left = omega (arith, measured.counted, so_far.left);
      counted = ap length c.in_ok-push.ensures.ok ∙ length_push c.loop-i.texts t ∙ ap (λ n. n + 1) so_far.counted;
      read =
          rw pushed (reads_on (map Text c.loop-i.texts) c.loop-i.i at (length c.args.bytes.now - length rest) c.args.count
          c.loop-i.rest.now t rest (texts_at 0 0 c.args.count c.args.bytes.now) c.loop-i-test.true place c.in_ok-text.ensures
          so_far.read);
    }

pub returns-in_err-text : goal.returns-in_err-text
returns-in_err-text c = grind (arith, common_steps, c.loop-i.invariant.read, c.loop-i-test.true, c.in_err-text.ensures, fails_on)
