use Rattle.std.proofs.Common.{◌≡◌, List, take}
use Rattle.values.specs.declared.value.ColumnType.TheVariants as column
use Rattle.values.specs.declared.value.Value.{Value}
use Rattle.merge.specs.Packed.{AreNumbersOf}
use Rattle.pdt_c.specs.Truths.{truths_of}
use Rattle.pdt_c.proofs.calls.bools.put_bytes.Given as goal

-- so much of the room has the bytes of the truths
abbrev pub invariant-loop-i : goal.invariant-loop-i
invariant-loop-i l = (truths : List Value) → AreNumbersOf column.Bool truths l.numbers → take l.i l.out ≡ take l.i (truths_of truths)
