use Rattle.manager.specs.Managed.{fault_of_opening}
use Rattle.pdtcli.specs.Program.{bytes_of, Inputs, AreInputs}
use Rattle.pdtcli.specs.declared.refusal.Refusal.TheVariants.{Open}
use Rattle.pdtcli.proofs.ProgramLemmas.{refused_for, no_fault, passed_up}
use Rattle.pdtcli.proofs.program.open_texts.Goals as goal

pub returns-in_err-manager-clause-refused : goal.returns-in_err-manager-clause-refused
returns-in_err-manager-clause-refused c =
    let inputs : Inputs =
    record { stable = c.in_ok-stable.stable; clients = c.in_ok-script.script.clients; calls = c.in_ok-script.script.calls } in
    let read : AreInputs (bytes_of c.args.table) (bytes_of c.args.script) inputs =
    record { table_read = c.in_ok-stable.ensures.ok; script_read = rw c.schema.ensures.columns at c.in_ok-script.ensures.ok } in
    passed_up c.from_residual-in_err-manager.result (Open c.in_err-manager.field-0.0) _ c.from_residual-in_err-manager.ensures.1 (
      inputs,
      read,
      refused_for (fault_of_opening c.in_ok-stable.stable c.args.options.recent c.args.options.limit) c.in_err-manager.field-0.0
          c.in_err-manager.ensures.fault,
    )

pub returns-clause-opened : goal.returns-clause-opened
returns-clause-opened c =
    record {
      stable = c.in_ok-stable.stable;
      read = record { table_read = c.in_ok-stable.ensures.ok; script_read = rw c.schema.ensures.columns at c.in_ok-script.ensures.ok };
      fits = no_fault (fault_of_opening c.in_ok-stable.stable c.args.options.recent c.args.options.limit) c.in_ok-manager.manager
          c.in_ok-manager.ensures.fault;
      manager_is = c.in_ok-manager.ensures.ok;
    }
