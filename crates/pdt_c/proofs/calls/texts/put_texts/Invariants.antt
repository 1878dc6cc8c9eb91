use Rattle.std.proofs.Common.{◌≡◌, ◌+◌, ◌++◌, take}
use Rattle.pdt_c.specs.Texts.{AreThere}
use Rattle.pdt_c.proofs.TextLemmas.{run_lengths}
use Rattle.pdt_c.proofs.calls.texts.put_texts.Given as goal

-- the lengths of the texts so far stand in C's room after those before the run, and none of them is at null
abbrev pub invariant-loop-i : goal.invariant-loop-i
invariant-loop-i l =
    (take (l.done + l.i) l.lens ≡ take l.done l.fn.lens ++ run_lengths l.run.texts.now l.run.first l.i)
    × (AreThere l.done l.fn.texts → AreThere (l.done + l.i) l.texts)
