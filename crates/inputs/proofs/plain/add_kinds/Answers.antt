use Rattle.std.proofs.Common.{◌∙◌, ◌<◌, length, Some, sym, arith}
use Rattle.csv.specs.Records.{fields_of}
use Rattle.std.proofs.lemmas.List.{length-set}
use Rattle.inputs.proofs.ReadLemmas.{field-drop, field-none}
use Rattle.inputs.proofs.PlainLemmas.{joined-end, joined-step}
use Rattle.inputs.proofs.plain.add_kinds.Goals as goal

pub returns-in-None : goal.returns-in-None
returns-in-None c =
    let none = field-none (fields_of c.args.fields.now) c.loop-i.i (rw c.in-None.is at c.get.ensures.value) in
    sym (c.loop-i.invariant.so ∙ joined-end c.loop-i.kinds.items (fields_of c.args.fields.now) c.loop-i.i none)

pub loop-i-preserved : goal.loop-i-preserved
loop-i-preserved c =
    let fields = fields_of c.args.fields.now in
    let kinds = c.loop-i.kinds.items in
    let inv = c.loop-i.invariant in
    let here = field-drop fields c.loop-i.i c.in-Some.bytes.now (rw c.in-Some.is at c.get.ensures.value) in
    let test = c.loop-i-test.true in
    let end = inv.end in
    let wide = inv.wide in
    let lt : c.loop-i.i < length kinds = omega (arith, test, end, wide) in
    let step = joined-step kinds fields c.loop-i.i c.index.result.now c.in-Some.bytes.now lt c.index.ensures here in
    record {
      wide = length-set kinds c.loop-i.i (Some c.joined_type.result) ∙ inv.wide;
      end = inv.end;
      so = inv.so ∙ rw (← c.kind_of.ensures, ← c.joined_type.ensures) at step;
    }
