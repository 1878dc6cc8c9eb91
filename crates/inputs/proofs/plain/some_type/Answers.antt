use Rattle.std.proofs.Common.{◌≡◌, ◌∙◌, true, false, sym, refl, arith, rules, add-one}
use Rattle.csv.specs.Records.{fields_of}
use Rattle.inputs.specs.Plain.{has_type}
use Rattle.inputs.proofs.ReadLemmas.{field-drop, field-there}
use Rattle.inputs.proofs.PlainLemmas.{any-here}
use Rattle.inputs.proofs.plain.some_type.Goals as goal

pub unreachable-requires : goal.unreachable-requires
unreachable-requires c =
    let count = c.len-i-end.ensures in
    let here = c.loop-i-test.true in
    field-there (fields_of c.args.header.now) c.loop-i.i (rw c.in-None.is at c.get.ensures.value) (omega (arith, count, here))

pub returns-then-is_some : goal.returns-then-is_some
returns-then-is_some c =
    let cells = fields_of c.args.header.now in
    let here = field-drop cells c.loop-i.i c.in-Some.cell.now (rw c.in-Some.is at c.get.ensures.value) in
    let typed : has_type c.in-Some.cell.now ≡ true = search rules in
    sym (c.loop-i.invariant ∙ any-here cells c.loop-i.i c.in-Some.cell.now here ∙ rw typed refl)

pub loop-i-preserved : goal.loop-i-preserved
loop-i-preserved c =
    let cells = fields_of c.args.header.now in
    let here = field-drop cells c.loop-i.i c.in-Some.cell.now (rw c.in-Some.is at c.get.ensures.value) in
    let plain : has_type c.in-Some.cell.now ≡ false = search rules in
    c.loop-i.invariant ∙ any-here cells c.loop-i.i c.in-Some.cell.now here ∙ rw (plain, add-one) refl
