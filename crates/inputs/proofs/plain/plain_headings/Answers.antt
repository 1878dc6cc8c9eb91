use Rattle.std.proofs.Common.{◌≡◌, ◌∙◌, true, arith, rules}
use Rattle.std.specs.Result.{is_ok}
use Rattle.std.proofs.Math.Seq.{drop-cons}
use Rattle.csv.specs.Records.{fields_of}
use Rattle.inputs.proofs.ReadLemmas.{field-drop, field-there, passed-up}
use Rattle.inputs.proofs.PlainLemmas.{plain_headings-fault, plain_headings-step}
use Rattle.inputs.proofs.plain.plain_headings.Goals as goal

pub unreachable-requires : goal.unreachable-requires
unreachable-requires c =
    let wide = c.requires in
    let here = c.loop-i-test.true in
    field-there (fields_of c.args.header.now) c.loop-i.i (rw c.in-None.is at c.get.ensures.value) (omega (arith, wide, here))

pub returns-in_err-plain_heading-clause-err : goal.returns-in_err-plain_heading-clause-err
returns-in_err-plain_heading-clause-err c =
    let names = fields_of c.args.header.now in
    let here = field-drop names c.loop-i.i c.in-Some.name.now (rw c.in-Some.is at c.get.ensures.value) in
    passed-up c.from_residual.result _ _ c.from_residual.ensures.1
    (λ ne. c.loop-i.invariant
    ∙ plain_headings-fault c.loop-i.i names c.args.types.now _ _ _ c.loop-i.headings.items here
    (drop-cons c.args.types.now c.loop-i.i _ c.loop-i-test.true) (c.in_err-plain_heading.ensures.err ne))

pub loop-i-preserved : goal.loop-i-preserved
loop-i-preserved c =
    let names = fields_of c.args.header.now in
    let here = field-drop names c.loop-i.i c.in-Some.name.now (rw c.in-Some.is at c.get.ensures.value) in
    let good : is_ok c.push.result ≡ true = search rules in
    let items = rw good at c.push.ensures.items in
    rw items (c.loop-i.invariant
    ∙ plain_headings-step c.loop-i.i names c.args.types.now _ _ _ c.loop-i.headings.items here
    (drop-cons c.args.types.now c.loop-i.i _ c.loop-i-test.true) c.in_ok-plain_heading.ensures.ok)
