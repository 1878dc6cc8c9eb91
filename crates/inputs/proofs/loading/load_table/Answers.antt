use Rattle.std.proofs.Common.{[], subst, sym}
use Rattle.inputs.specs.Reading.{IsReading}
use Rattle.inputs.proofs.ReadLemmas.{then-err, then-ok}
use Rattle.inputs.proofs.loading.load_table.Goals as goal

pub returns-clause-ok : goal.returns-clause-ok
returns-clause-ok c =
    let start = subst (IsReading c.args.text.now []) (sym c.as_mut.ensures.value) c.in_ok-reader.ensures in
    then-ok c.load_records.result _ _ (λ table is. is c.args.text.now start) c.load_records.ensures.ok

pub returns-clause-err : goal.returns-clause-err
returns-clause-err c =
    let start = subst (IsReading c.args.text.now []) (sym c.as_mut.ensures.value) c.in_ok-reader.ensures in
    then-err c.load_records.result _ _ (λ fault is ne. is ne c.args.text.now start) c.load_records.ensures.err
