use Rattle.std.proofs.Common.{◌≡◌, drop}
use Rattle.std.specs.List.{list_any}
use Rattle.pdtcli.specs.Output.{is_refused}
use Rattle.pdtcli.proofs.output.lines_status.Given as goal

-- no line so far was refused
abbrev pub invariant-loop-line : goal.invariant-loop-line
invariant-loop-line l = list_any is_refused l.lines ≡ list_any is_refused (drop l.line-index l.lines)
