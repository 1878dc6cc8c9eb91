use Rattle.std.proofs.Common.{◌≡◌, [], true, false, refl, rules}
use Rattle.csv.specs.Records.{fields_of}
use Rattle.inputs.specs.declared.fault.TableFault.TheVariants.{NoMemory}
use Rattle.inputs.proofs.ReadLemmas.{passed-up, then-err, then-ok}
use Rattle.inputs.proofs.TableLemmas.{table_of-none, table_of-bad_header}
use Rattle.inputs.proofs.header.first_schema.Goals as goal

pub returns-then-not-found-clause-err : goal.returns-then-not-found-clause-err
returns-then-not-found-clause-err c ne text start all g =
    let none : c.in_ok-found.found ≡ false = search rules in
    table_of-none text all (rw none at (c.in_ok-found.ensures text [] start)) g

pub returns-in_err-found-clause-err : goal.returns-in_err-found-clause-err
returns-in_err-found-clause-err c =
    passed-up c.from_residual.result NoMemory _ c.from_residual.ensures.1 (λ ne. absurd (ne refl))

pub returns-clause-ok : goal.returns-clause-ok
returns-clause-ok c =
    let one : c.in_ok-found.found ≡ true = search rules in
    then-ok c.read_header.result _ _
    (λ schema is. (fields_of c.next_record.new.fields, is, λ text start. rw one at (c.in_ok-found.ensures text [] start)))
    c.read_header.ensures.ok

pub returns-clause-err : goal.returns-clause-err
returns-clause-err c =
    let one : c.in_ok-found.found ≡ true = search rules in
    then-err c.read_header.result _ _
    (λ fault is ne text start all g. table_of-bad_header text _ all _ _ (rw one at (c.in_ok-found.ensures text [] start)) (is ne) g)
    c.read_header.ensures.err
