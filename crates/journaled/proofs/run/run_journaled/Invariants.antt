use Rattle.std.proofs.Common.{◌≡◌, ◌++◌, None, List, length, replicate}
use Rattle.std.specs.Io.KnownBytes.{Appends}
use Rattle.std.specs.List.{list_any}
use Rattle.devices.specs.Appending.{taken_by}
use Rattle.inputs.specs.declared.call.ClientCall.{ClientCall}
use Rattle.pdtcli.specs.Output.{is_refused, lines_text}
use Rattle.pdtcli.specs.Ready.{IsReady}
use Rattle.pdtcli.specs.declared.reply.ReplyLine.{ReplyLine}
use Rattle.journaled.specs.Run.{IsRun}
use Rattle.journaled.proofs.run.run_journaled.Given as goal

-- the lines so far are a run of the calls so far, and are written; and each client is ready for the next
abbrev pub invariant-loop-asked : goal.invariant-loop-asked
invariant-loop-asked g l =
    let taken =
    taken_by (λ b. (goal.ColumnDevice-dyn g (b.vtable, b.value)).contents b.value)
    (λ b. (goal.ColumnDevice-dyn g (b.vtable, b.value)).failures b.value) in
    let script = l.fn.opened.script in record {
      run :
          (done : List ClientCall) × (lines : List ReplyLine) × (done ++ l.left ≡ script.calls)
          × IsRun
          (record {
            journaled = l.initial.journaled;
            transactions = replicate (length script.clients) None;
            store = taken l.initial.store.devices.items l.initial.store.next;
          })
          done lines
          (record { journaled = l.journaled; transactions = l.callers.items; store = taken l.store.devices.items l.store.next })
          × Appends (g.W.Write.contents l.initial.out) (g.W.Write.contents l.out) (lines_text script.clients lines)
          × (l.refused ≡ list_any is_refused lines);
      schema : l.store.schema ≡ l.fn.opened.manager.schema;
      next : l.journaled.next ≡ l.store.next;
      ready : IsReady l.fn.opened.manager.schema (length script.clients) l.journaled.durable.manager l.callers.items;
    }

abbrev pub decreases-loop-asked : goal.decreases-loop-asked
decreases-loop-asked g l = length l.left
