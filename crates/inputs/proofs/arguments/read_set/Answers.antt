use Rattle.std.proofs.Common.{◌∙◌, ◌+◌, arith, add-one, refl, sym}
use Rattle.csv.specs.Records.{fields_of}
use Rattle.inputs.proofs.ReadLemmas.{field-drop, field-there}
use Rattle.inputs.proofs.ScriptLemmas.{set_cell-parts}
use Rattle.inputs.proofs.arguments.read_set.Goals as goal

pub returns-in-None-find_column-clause-err : goal.returns-in-None-find_column-clause-err
returns-in-None-find_column-clause-err c ne =
    let count = c.key_cols-at.ensures.count in
    let f =
    rw count at (field-drop (fields_of c.args.fields.now) (2 + c.key_cols-at.result) c.in-Some.name.now
    (rw c.in-Some.is at c.get.ensures.value)) in
    let g =
    rw count at (field-drop (fields_of c.args.fields.now) (2 + c.key_cols-at.result + 1) c.in-Some-get.bytes.now
    (rw c.in-Some-get.is at c.get-2.ensures.value)) in
    let parts =
    set_cell-parts c.args.schema.now c.args.number (2 + c.args.schema.now.key_cols) c.args.key (fields_of c.args.fields.now)
    c.in-Some.name.now c.in-Some-get.bytes.now f g in
    rw count (parts ∙ rw (sym c.find_column.ensures.first ∙ c.in-None-find_column.is) refl)

pub returns-in-None-2-clause-err : goal.returns-in-None-2-clause-err
returns-in-None-2-clause-err c ne =
    let count = c.key_cols-at.ensures.count in
    let f =
    rw count at (field-drop (fields_of c.args.fields.now) (2 + c.key_cols-at.result) c.in-Some.name.now
    (rw c.in-Some.is at c.get.ensures.value)) in
    let g =
    rw count at (field-drop (fields_of c.args.fields.now) (2 + c.key_cols-at.result + 1) c.in-Some-get.bytes.now
    (rw c.in-Some-get.is at c.get-2.ensures.value)) in
    let parts =
    set_cell-parts c.args.schema.now c.args.number (2 + c.args.schema.now.key_cols) c.args.key (fields_of c.args.fields.now)
    c.in-Some.name.now c.in-Some-get.bytes.now f g in
    rw (count, add-one) (parts
    ∙ rw (
      sym c.find_column.ensures.first ∙ c.in-Some-find_column.is,
      c.column_type.ensures,
      sym c.in_ok-value.ensures ∙ c.in-None-2.is,
    ) refl)

pub returns-clause-ok : goal.returns-clause-ok
returns-clause-ok c =
    let count = c.key_cols-at.ensures.count in
    let f =
    rw count at (field-drop (fields_of c.args.fields.now) (2 + c.key_cols-at.result) c.in-Some.name.now
    (rw c.in-Some.is at c.get.ensures.value)) in
    let g =
    rw count at (field-drop (fields_of c.args.fields.now) (2 + c.key_cols-at.result + 1) c.in-Some-get.bytes.now
    (rw c.in-Some-get.is at c.get-2.ensures.value)) in
    let parts =
    set_cell-parts c.args.schema.now c.args.number (2 + c.args.schema.now.key_cols) c.args.key (fields_of c.args.fields.now)
    c.in-Some.name.now c.in-Some-get.bytes.now f g in
    parts
    ∙ rw (
      sym c.find_column.ensures.first ∙ c.in-Some-find_column.is,
      c.column_type.ensures,
      sym c.in_ok-value.ensures ∙ c.in-Some-2.is,
    ) refl

pub unreachable-requires : goal.unreachable-requires
unreachable-requires c =
    let count = c.requires in
    let key = c.key_cols-at.ensures.count in
    field-there (fields_of c.args.fields.now) (2 + c.key_cols-at.result) (rw c.in-None.is at c.get.ensures.value)
    (omega (arith, count, key))

pub unreachable-requires-in-None-get : goal.unreachable-requires-in-None-get
unreachable-requires-in-None-get c =
    let count = c.requires in
    let key = c.key_cols-at.ensures.count in
    field-there (fields_of c.args.fields.now) (2 + c.key_cols-at.result + 1) (rw c.in-None-get.is at c.get-2.ensures.value)
    (omega (arith, count, key))
