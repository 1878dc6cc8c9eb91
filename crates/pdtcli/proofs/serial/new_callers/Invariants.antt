use Rattle.std.proofs.Common.{◌≡◌, None, replicate}
use Rattle.pdtcli.proofs.serial.new_callers.Given as goal

-- so many clients so far
abbrev pub invariant-loop : goal.invariant-loop
invariant-loop l = l.callers.items ≡ replicate l.counter None
