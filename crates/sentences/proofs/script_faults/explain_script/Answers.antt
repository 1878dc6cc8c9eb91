use Rattle.std.proofs.Common.{◌∙◌, List, ℕ, ap, sym}
use Rattle.csv.specs.Records.{fields_of}
use Rattle.sentences.specs.Scripts.{record_sentence}
use Rattle.sentences.proofs.RecordLemmas.{script-found, then-ok}
use Rattle.sentences.proofs.script_faults.explain_script.Goals as goal

pub returns : goal.returns
returns c =
    let found = c.in-Some-2.found in
    let number = rw c.in-Some.is at c.record_of.ensures in
    let told = rw c.in-Some-2.is at c.in_ok-found.ensures in
    let place = c.as_str.ensures.value ∙ c.in_ok-place.ensures in
    then-ok c.record_sentence.result _ _
    (λ sentence is. (
      found.line,
      λ records are.
          is
          ∙ ap (λ (at : List ℕ). record_sentence c.args.schema.now at (fields_of found.fields) c.args.fault) place
          ∙ sym
          (script-found c.args.schema.now found.line c.in-Some.number records c.args.fault (fields_of found.fields) number
          (told records are)),
    ))
    c.record_sentence.ensures
