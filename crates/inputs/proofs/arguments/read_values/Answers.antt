use Rattle.std.proofs.Common.{◌≡◌, ◌∙◌, ◌+◌, arith, true, rules, sym}
use Rattle.std.specs.Result.{is_ok}
use Rattle.std.proofs.slice.Lists.{drop-cons}
use Rattle.csv.specs.Records.{fields_of}
use Rattle.inputs.proofs.ReadLemmas.{field-drop, field-there}
use Rattle.inputs.proofs.ScriptLemmas.{values_of-step, values_of-fault}
use Rattle.inputs.proofs.arguments.read_values.Goals as goal

pub returns-in-None-2-clause-err : goal.returns-in-None-2-clause-err
returns-in-None-2-clause-err c ne =
    let f = field-drop (fields_of c.args.fields.now) (2 + c.loop-i.i) c.in-Some.bytes.now (rw c.in-Some.is at c.get.ensures.value) in
    let k = drop-cons c.args.types.now c.loop-i.i _ c.loop-i-test.true in
    c.loop-i.invariant
    ∙ values_of-fault c.args.number c.loop-i.i c.args.types.now (fields_of c.args.fields.now) _ c.in-Some.bytes.now
    c.loop-i.values.items k f (sym c.in_ok-value.ensures ∙ c.in-None-2.is)

pub loop-i-preserved : goal.loop-i-preserved
loop-i-preserved c =
    let f = field-drop (fields_of c.args.fields.now) (2 + c.loop-i.i) c.in-Some.bytes.now (rw c.in-Some.is at c.get.ensures.value) in
    let k = drop-cons c.args.types.now c.loop-i.i _ c.loop-i-test.true in
    let good : is_ok c.push.result ≡ true = search rules in
    let items = rw good at c.push.ensures.items in
    rw items (c.loop-i.invariant
    ∙ values_of-step c.args.number c.loop-i.i c.args.types.now (fields_of c.args.fields.now) _ c.in-Some.bytes.now
    c.loop-i.values.items k f c.in-Some-2.value (sym c.in_ok-value.ensures ∙ c.in-Some-2.is))

pub unreachable-requires : goal.unreachable-requires
unreachable-requires c =
    let count = c.requires in
    let here = c.loop-i-test.true in
    field-there (fields_of c.args.fields.now) (2 + c.loop-i.i) (rw c.in-None.is at c.get.ensures.value) (omega (arith, count, here))
