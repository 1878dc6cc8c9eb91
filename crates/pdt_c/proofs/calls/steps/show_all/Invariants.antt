use Rattle.std.proofs.Common.{map}
use Rattle.pdt_c.specs.Steps.{ArePieces}
use Rattle.pdt_c.proofs.calls.steps.show_all.Given as goal

-- so many frames are shown
abbrev pub invariant-loop-i : goal.invariant-loop-i
invariant-loop-i l = ArePieces l.i l.pieces (map (λ v. v.items) l.frames)
