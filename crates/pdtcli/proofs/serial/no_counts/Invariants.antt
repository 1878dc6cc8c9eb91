use Rattle.std.proofs.Common.{◌≡◌, replicate}
use Rattle.pdtcli.proofs.serial.no_counts.Given as goal

-- so many clients so far
abbrev pub invariant-loop : goal.invariant-loop
invariant-loop l = l.counts.items ≡ replicate l.counter 0
