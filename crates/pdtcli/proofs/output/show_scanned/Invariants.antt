use Rattle.std.proofs.Common.{map, take}
use Rattle.pdtcli.specs.Output.{records_text}
use Rattle.pdtcli.specs.Records.{Goes}
use Rattle.pdtcli.specs.Replies.{shown_fields}
use Rattle.pdtcli.proofs.output.show_scanned.Given as goal

-- the rows so far go
abbrev pub invariant-loop-at : goal.invariant-loop-at
invariant-loop-at g l =
    Goes (g.W.Write.contents l.initial.out) (g.W.Write.contents l.out) l.fn.batch.records l.batch.records
    (records_text (map (shown_fields l.clients l.line) (take l.at l.rows)))
