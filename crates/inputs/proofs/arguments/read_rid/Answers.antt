use Rattle.std.proofs.Common.{sym, ap, ◌∙◌}
use Rattle.csv.specs.Records.{fields_of}
use Rattle.inputs.specs.declared.fault.ScriptFault.TheVariants.{BadArgument}
use Rattle.inputs.specs.Calls.{position_at}
use Rattle.inputs.specs.Cells.{or_else}
use Rattle.inputs.proofs.ReadLemmas.{field-drop, field-there}
use Rattle.inputs.proofs.PositionLemmas.{field-is}
use Rattle.inputs.proofs.arguments.read_rid.Goals as goal

pub unreachable-requires : goal.unreachable-requires
unreachable-requires c = field-there (fields_of c.args.fields.now) c.args.at (rw c.in-None.is at c.get.ensures.value) c.requires

pub returns-in-Some-read_position : goal.returns-in-Some-read_position
returns-in-Some-read_position c =
    let here =
    field-is (fields_of c.args.fields.now) _ c.args.at c.in-Some.bytes.now
    (field-drop (fields_of c.args.fields.now) c.args.at c.in-Some.bytes.now (rw c.in-Some.is at c.get.ensures.value)) in
    sym (ap (position_at c.args.number c.args.at) here
    ∙ ap (or_else (BadArgument c.args.number c.args.at)) (sym c.read_position.ensures ∙ c.in-Some-read_position.is))

pub returns-in-None-read_position : goal.returns-in-None-read_position
returns-in-None-read_position c =
    let here =
    field-is (fields_of c.args.fields.now) _ c.args.at c.in-Some.bytes.now
    (field-drop (fields_of c.args.fields.now) c.args.at c.in-Some.bytes.now (rw c.in-Some.is at c.get.ensures.value)) in
    sym (ap (position_at c.args.number c.args.at) here
    ∙ ap (or_else (BadArgument c.args.number c.args.at)) (sym c.read_position.ensures ∙ c.in-None-read_position.is))
