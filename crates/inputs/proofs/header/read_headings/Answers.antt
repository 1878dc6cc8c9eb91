use Rattle.std.proofs.Common.{◌≡◌, ◌∙◌, arith, true, rules}
use Rattle.std.specs.Result.{is_ok}
use Rattle.csv.specs.Records.{fields_of}
use Rattle.inputs.proofs.ReadLemmas.{field-drop, field-there, passed-up}
use Rattle.inputs.proofs.HeaderLemmas.{headings_of-step, headings_of-fault}
use Rattle.inputs.proofs.header.read_headings.Goals as goal

pub returns-in_err-heading-clause-err : goal.returns-in_err-heading-clause-err
returns-in_err-heading-clause-err c =
    let here = field-drop (fields_of c.args.fields.now) c.loop-i.i c.in-Some.bytes.now (rw c.in-Some.is at c.get.ensures.value) in
    passed-up c.from_residual.result _ _ c.from_residual.ensures.1
    (λ ne. c.loop-i.invariant ∙ headings_of-fault _ _ _ _ _ c.loop-i.headings.items here (c.in_err-heading.ensures.err ne))

pub loop-i-preserved : goal.loop-i-preserved
loop-i-preserved c =
    let here = field-drop (fields_of c.args.fields.now) c.loop-i.i c.in-Some.bytes.now (rw c.in-Some.is at c.get.ensures.value) in
    let good : is_ok c.push.result ≡ true = search rules in
    let items = rw good at c.push.ensures.items in
    rw items (c.loop-i.invariant ∙ headings_of-step _ _ _ _ _ c.loop-i.headings.items here c.in_ok-heading.ensures.ok)

pub unreachable-requires : goal.unreachable-requires
unreachable-requires c =
    let count = c.len-i-end.ensures in
    let here = c.loop-i-test.true in
    field-there (fields_of c.args.fields.now) c.loop-i.i (rw c.in-None.is at c.get.ensures.value) (omega (arith, count, here))
