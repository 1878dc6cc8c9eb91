use Rattle.std.proofs.Common.{◌∙◌, List, ℕ, ap, sym}
use Rattle.csv.specs.Records.{fields_of}
use Rattle.sentences.specs.Tables.{record_sentence}
use Rattle.sentences.proofs.RecordLemmas.{table-found, then-ok}
use Rattle.sentences.proofs.table_faults.explain_table.Goals as goal

pub returns : goal.returns
returns c =
    let header = c.in-Some-2.header in
    let found = c.in-Some-3.found in
    let number = rw c.in-Some.is at c.record_of.ensures in
    let first = rw c.in-Some-2.is at c.in_ok-header.ensures in
    let told = rw c.in-Some-3.is at c.in_ok-found.ensures in
    let place = c.as_str.ensures.value ∙ c.in_ok-place.ensures in
    then-ok c.record_sentence.result _ _
    (λ sentence is. (
      found.line,
      λ records are.
          is
          ∙ ap (λ (at : List ℕ). record_sentence c.args.types.now at (fields_of header.fields) (fields_of found.fields) c.args.fault) place
          ∙ sym
          (table-found c.args.types.now found.line c.in-Some.number records c.args.fault (fields_of header.fields) (fields_of found.fields)
          number (first records are) (told records are)),
    ))
    c.record_sentence.ensures
