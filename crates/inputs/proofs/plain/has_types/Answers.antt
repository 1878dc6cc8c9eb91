use Rattle.std.proofs.Common.{◌≡◌, ◌∙◌, [], true, false, sym, subst, rules}
use Rattle.csv.specs.Records.{fields_of}
use Rattle.inputs.specs.Reading.{IsReading}
use Rattle.inputs.proofs.PlainLemmas.{names_types-first, names_types-none}
use Rattle.inputs.proofs.plain.has_types.Goals as goal
use Rattle.inputs.proofs.plain.has_types.Goals.{then-found, else-found}

pub returns : goal.returns
returns c records g =
    let start = subst (IsReading c.args.text.now []) (sym c.as_mut.ensures.value) c.in_ok-reader.ensures in
    elim c.if-found.branch [
      | then-found w ↦
          let one : c.in_ok-found.found ≡ true = search rules in
          w.result-is
          ∙ w.some_type.ensures
          ∙ sym (names_types-first c.args.text.now (fields_of c.next_record.new.fields) records _
          (rw one at (c.in_ok-found.ensures c.args.text.now [] start)) g)
      | else-found w ↦
          let none : c.in_ok-found.found ≡ false = search rules in
          let empty = rw none at (c.in_ok-found.ensures c.args.text.now [] start) in
          w.result-is ∙ none ∙ sym (names_types-none c.args.text.now records empty g)
    ]
