use Rattle.std.proofs.Common.{◌≡◌, ◌≤◌, ◌+◌, ◌++◌, None, List, length, replicate}
use Rattle.std.specs.Prelude.{vec_capacity, vec_len}
use Rattle.devices.specs.Appending.{taken_by}
use Rattle.inputs.specs.declared.call.ClientCall.{ClientCall}
use Rattle.pdtcli.specs.Run.{IsRun}
use Rattle.pdtcli.specs.Ready.{IsReady}
use Rattle.pdtcli.proofs.CountLemmas.{counts_of}
use Rattle.pdtcli.proofs.serial.run_serial.Given as goal

-- the lines so far are a run of the calls so far and counted, each client is ready for the next, and there is room for the rest
abbrev pub invariant-loop-asked : goal.invariant-loop-asked
invariant-loop-asked g l =
    let taken =
    taken_by (λ b. (goal.ColumnDevice-dyn g (b.vtable, b.value)).contents b.value)
    (λ b. (goal.ColumnDevice-dyn g (b.vtable, b.value)).failures b.value) in record {
      run :
          (done : List ClientCall) × (done ++ l.left ≡ l.fn.script.calls)
          × IsRun
          (record {
            manager = l.fn.manager;
            transactions = replicate (length l.fn.script.clients) None;
            store = taken l.fn.store.devices.items l.fn.store.next;
          })
          done l.lines.items
          (record { manager = l.manager; transactions = l.callers.items; store = taken l.store.devices.items l.store.next });
      schema : l.store.schema ≡ l.fn.manager.schema;
      ready : IsReady l.fn.manager.schema (length l.fn.script.clients) l.manager l.callers.items;
      room : vec_len l.lines + length l.left ≤ vec_capacity l.lines;
      made : l.fn.manager.made + length l.manager.history ≤ length l.fn.manager.history + l.manager.made;
      counts : l.counts.items ≡ counts_of l.lines.items (length l.fn.script.clients);
    }

abbrev pub decreases-loop-asked : goal.decreases-loop-asked
decreases-loop-asked g l = length l.left
