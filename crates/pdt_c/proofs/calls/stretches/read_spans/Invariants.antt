use Rattle.std.proofs.Common.{◌≡◌, ◌+◌, ◌-◌, ◌≤◌, length, take}
use Rattle.std.specs.Prelude.{min}
use Rattle.model.specs.Table.{rows_of}
use Rattle.merge.specs.Image.{image_rows}
use Rattle.txn.specs.Txn.{image_of}
use Rattle.pdt_c.specs.Spans.{AreSpans}
use Rattle.pdt_c.proofs.calls.stretches.read_spans.Given as goal

-- the spans so far tell of the rows up to the position, and the stretches that are left go on from there
abbrev pub invariant-loop-stretch : goal.invariant-loop-stretch
invariant-loop-stretch l =
    let rows = length (image_of l.txn) in
    (length l.out ≡ length l.fn.out)
    × (l.count ≤ length l.fn.out)
    × (image_rows l.stretch-iterator.stack ≡ rows_of (image_of l.txn))
    × (l.position ≡ l.stretch-iterator.rid)
    × AreSpans l.stretch-iterator.stack (min l.from rows) (take l.count l.out) l.position
    × (l.position + l.stretch-iterator.left ≡ min l.from rows + (min l.end rows - min l.from rows))
