use Rattle.std.proofs.Common.{[], refl, sym, subst}
use Rattle.values.specs.Shape.{Columns}
use Rattle.inputs.specs.Reading.{IsReading}
use Rattle.inputs.specs.Typed.{IsTyped}
use Rattle.inputs.specs.declared.fault.ScriptFault.TheVariants.{NoMemory}
use Rattle.inputs.proofs.ReadLemmas.{passed-up}
use Rattle.inputs.proofs.script.read_script.Goals as goal

pub returns-in_err-under-clause-err : goal.returns-in_err-under-clause-err
returns-in_err-under-clause-err c =
    passed-up c.from_residual.result NoMemory _ c.from_residual.ensures.1 (λ ne. absurd (ne refl))

pub returns-in_err-clients-clause-err : goal.returns-in_err-clients-clause-err
returns-in_err-clients-clause-err c =
    let start = subst (IsReading c.args.text.now []) (sym c.as_mut.ensures.value) c.in_ok-reader.ensures in
    passed-up c.from_residual-in_err-clients.result _ _ c.from_residual-in_err-clients.ensures.1
    (λ ne. c.in_err-clients.ensures.err ne c.args.text.now start)

pub returns-clause-ok : goal.returns-clause-ok
returns-clause-ok c =
    c.in_ok-clients.ensures.ok c.args.text.now
    (subst (IsReading c.args.text.now []) (sym c.as_mut.ensures.value) c.in_ok-reader.ensures)

pub invariant_of-result : goal.invariant_of-result
invariant_of-result c =
    subst
    (λ (under : Columns). IsTyped (record { schema = under; clients = c.in_ok-clients.clients.items; calls = c.in_ok-clients.calls.items }))
    (sym c.in_ok-under.ensures) c.in_ok-clients.ensures.typed
