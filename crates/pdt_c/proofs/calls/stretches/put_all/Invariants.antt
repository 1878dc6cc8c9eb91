use Rattle.std.proofs.Common.{◌≡◌, ℕ, ◌<◌, length, get_or}
use Rattle.pdt_c.proofs.calls.stretches.put_all.Given as goal

-- the bytes so far are the one
abbrev pub invariant-loop-col : goal.invariant-loop-col
invariant-loop-col l = (length l.own ≡ length l.fn.own) × ((j : ℕ) → j < l.col → get_or l.own j l.byte ≡ l.byte)
