use Rattle.std.proofs.Common.{◌≡◌, true, false, arith, rules}
use Rattle.csv.specs.Records.{fields_of}
use Rattle.inputs.proofs.CallerLemmas.{field-drop, field-there}
use Rattle.sentences.specs.Headings.{is_key_heading}
use Rattle.sentences.proofs.KeyLemmas.{key_count-key, key_count-other}
use Rattle.sentences.proofs.keys.key_count.Goals as goal
use Rattle.sentences.proofs.keys.key_count.Goals.{then-is_key_heading, else-is_key_heading}

pub unreachable-requires : goal.unreachable-requires
unreachable-requires c =
    let count = c.len-at-end.ensures in
    let here = c.loop-at-test.true in
    field-there (fields_of c.args.header.now) c.loop-at.at (rw c.in-None.is at c.get.ensures.value) (omega (arith, count, here))

pub loop-at-preserved : goal.loop-at-preserved
loop-at-preserved c =
    let inv = c.loop-at.invariant in
    let heading = c.in-Some.heading.now in
    let here = field-drop (fields_of c.args.header.now) c.loop-at.at heading (rw c.in-Some.is at c.get.ensures.value) in
    elim c.if-is_key_heading.branch [
      | then-is_key_heading w ↦
          let yes : is_key_heading heading ≡ true = search rules in
          let more = key_count-key (fields_of c.args.header.now) c.loop-at.at heading here yes in
          rw w.count-is (record {
            few = omega (arith, inv.few);
            counted = omega (arith, more, inv.counted);
          })
      | else-is_key_heading w ↦
          let no : is_key_heading heading ≡ false = search rules in
          let more = key_count-other (fields_of c.args.header.now) c.loop-at.at heading here no in
          rw w.count-is (record {
            few = omega (arith, inv.few);
            counted = omega (arith, more, inv.counted);
          })
    ]
