use Rattle.std.proofs.Common.{◌∙◌, ◌+◌, ap, sym}
use Rattle.csv.specs.Records.{fields_of}
use Rattle.inputs.proofs.ReadLemmas.{field-drop}
use Rattle.inputs.proofs.ScriptLemmas.{drop-no_field, asked-no_verb, asked-bad_verb, asked-bad_count, asked-typed}
use Rattle.inputs.proofs.arguments.read_asked.Goals as goal

pub returns-in-None-clause-err : goal.returns-in-None-clause-err
returns-in-None-clause-err c ne =
    asked-no_verb c.args.schema.now c.args.number (fields_of c.args.fields.now)
    (drop-no_field (fields_of c.args.fields.now) 1 (rw c.in-None.is at c.get.ensures.value))

pub returns-in-None-read_verb-clause-err : goal.returns-in-None-read_verb-clause-err
returns-in-None-read_verb-clause-err c ne =
    let here = field-drop (fields_of c.args.fields.now) 1 c.in-Some.word.now (rw c.in-Some.is at c.get.ensures.value) in
    asked-bad_verb c.args.schema.now c.args.number (fields_of c.args.fields.now) c.in-Some.word.now here
    (sym c.read_verb.ensures ∙ c.in-None-read_verb.is)

pub returns-then-len-count_arguments-clause-err : goal.returns-then-len-count_arguments-clause-err
returns-then-len-count_arguments-clause-err c ne =
    let here = field-drop (fields_of c.args.fields.now) 1 c.in-Some.word.now (rw c.in-Some.is at c.get.ensures.value) in
    asked-bad_count c.args.schema.now c.args.number (fields_of c.args.fields.now) c.in-Some.word.now here _
    (sym c.read_verb.ensures ∙ c.in-Some-read_verb.is)
    (λ e. c.if-len-count_arguments.true (c.len.ensures ∙ e ∙ sym (ap (λ n. 2 + n) c.count_arguments.ensures.count)))

pub returns-clause-ok : goal.returns-clause-ok
returns-clause-ok c =
    let here = field-drop (fields_of c.args.fields.now) 1 c.in-Some.word.now (rw c.in-Some.is at c.get.ensures.value) in
    rw (asked-typed c.args.schema.now c.args.number (fields_of c.args.fields.now) c.in-Some.word.now here _
    (sym c.read_verb.ensures ∙ c.in-Some-read_verb.is)
    (sym c.len.ensures ∙ c.if-len-count_arguments.false ∙ ap (λ n. 2 + n) c.count_arguments.ensures.count)) c.read_typed.ensures.ok

pub returns-clause-err : goal.returns-clause-err
returns-clause-err c =
    let here = field-drop (fields_of c.args.fields.now) 1 c.in-Some.word.now (rw c.in-Some.is at c.get.ensures.value) in
    rw (asked-typed c.args.schema.now c.args.number (fields_of c.args.fields.now) c.in-Some.word.now here _
    (sym c.read_verb.ensures ∙ c.in-Some-read_verb.is)
    (sym c.len.ensures ∙ c.if-len-count_arguments.false ∙ ap (λ n. 2 + n) c.count_arguments.ensures.count)) c.read_typed.ensures.err
