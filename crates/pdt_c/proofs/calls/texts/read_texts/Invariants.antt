use Rattle.std.proofs.Common.{◌≡◌, ◌+◌, ◌++◌, length, take}
use Rattle.values.specs.declared.value.ColumnType.TheVariants as column
use Rattle.pdt_c.specs.Cells.{numbers_of}
use Rattle.pdt_c.specs.Numbers.{column_between}
use Rattle.pdt_c.specs.Texts.{AreThere}
use Rattle.pdt_c.proofs.calls.texts.read_texts.Given as goal

-- the lengths and addresses so far stand in C's rooms, and the lengths of the runs that are left come after them
abbrev pub invariant-loop-run : goal.invariant-loop-run
invariant-loop-run l =
    let all = column_between l.txn l.col l.from l.to in
    (length l.texts ≡ length l.fn.texts)
    × (length l.lens ≡ length l.fn.lens)
    × (l.run-iterator.ty ≡ column.Text)
    × (l.done + length l.run-iterator.values ≡ length all)
    × (take l.done l.lens ++ numbers_of l.run-iterator.values ≡ numbers_of all)
    × AreThere l.done l.texts
