use Rattle.std.proofs.Common.{◌≡◌, ◌∙◌, false, true, sym, ap, refl, add-one, arith, rules}
use Rattle.std.specs.Str.{is_utf8}
use Rattle.csv.specs.Records.{fields_of}
use Rattle.inputs.proofs.CallerLemmas.{field-drop, field-there}
use Rattle.sentences.specs.Scripts.{first_bad}
use Rattle.sentences.proofs.RecordLemmas.{drop-all}
use Rattle.sentences.proofs.script_faults.first_bad.Goals as goal

pub unreachable-requires : goal.unreachable-requires
unreachable-requires c =
    let count = c.len-at-end.ensures in
    let here = c.loop-at-test.true in
    field-there (fields_of c.args.fields.now) c.loop-at.at (rw c.in-None.is at c.get.ensures.value) (omega (arith, count, here))

pub returns-then-not-is_text : goal.returns-then-not-is_text
returns-then-not-is_text c =
    let here = field-drop (fields_of c.args.fields.now) c.loop-at.at c.in-Some.field.now (rw c.in-Some.is at c.get.ensures.value) in
    let bad : is_utf8 c.in-Some.field.now ≡ false = search rules in
    sym (ap first_bad here ∙ rw bad refl) ∙ c.loop-at.invariant

pub loop-at-preserved : goal.loop-at-preserved
loop-at-preserved c =
    let here = field-drop (fields_of c.args.fields.now) c.loop-at.at c.in-Some.field.now (rw c.in-Some.is at c.get.ensures.value) in
    let good : is_utf8 c.in-Some.field.now ≡ true = search rules in
    rw add-one (sym (ap first_bad here ∙ rw good refl) ∙ c.loop-at.invariant)

pub returns : goal.returns
returns c =
    let past = c.loop-at-test.false in
    let count = c.len-at-end.ensures in
    sym (ap first_bad (drop-all (fields_of c.args.fields.now) c.loop-at.at (omega (arith, past, count)))) ∙ c.loop-at.invariant
