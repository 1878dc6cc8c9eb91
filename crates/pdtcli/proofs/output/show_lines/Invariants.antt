use Rattle.std.proofs.Common.{take}
use Rattle.pdtcli.specs.Output.{lines_text}
use Rattle.pdtcli.specs.Records.{HasGone}
use Rattle.pdtcli.proofs.output.show_lines.Given as goal

-- the lines so far have gone
abbrev pub invariant-loop-line : goal.invariant-loop-line
invariant-loop-line g l =
    HasGone (g.W.Write.contents l.initial.out) (g.W.Write.contents l.out) l.batch.records
    (lines_text l.clients (take l.line-index l.lines))
