use Rattle.std.proofs.Common.{◌≡◌, ◌∙◌, false, true, sym, refl, add-one, arith, rules}
use Rattle.std.specs.Str.{is_utf8}
use Rattle.csv.specs.Records.{fields_of}
use Rattle.inputs.proofs.ReadLemmas.{field-drop, field-there}
use Rattle.inputs.proofs.script.is_each_text.Goals as goal

pub returns-then-not-is_text : goal.returns-then-not-is_text
returns-then-not-is_text c =
    let here = field-drop (fields_of c.args.fields.now) c.loop-i.i c.in-Some.bytes.now (rw c.in-Some.is at c.get.ensures.value) in
    let no : is_utf8 c.in-Some.bytes.now ≡ false = search rules in
    sym (c.loop-i.invariant ∙ rw (here, no) refl)

pub loop-i-preserved : goal.loop-i-preserved
loop-i-preserved c =
    let here = field-drop (fields_of c.args.fields.now) c.loop-i.i c.in-Some.bytes.now (rw c.in-Some.is at c.get.ensures.value) in
    let yes : is_utf8 c.in-Some.bytes.now ≡ true = search rules in
    c.loop-i.invariant ∙ rw (here, yes, add-one) refl

pub unreachable-requires : goal.unreachable-requires
unreachable-requires c =
    let count = c.len-i-end.ensures in
    let here = c.loop-i-test.true in
    field-there (fields_of c.args.fields.now) c.loop-i.i (rw c.in-None.is at c.get.ensures.value) (omega (arith, count, here))
