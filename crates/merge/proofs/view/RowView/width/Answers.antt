use Rattle.std.proofs.Common.{arith}
use Rattle.merge.proofs.ViewLemmas.{length-row_of, outside, stable_width}
use Rattle.merge.proofs.view.RowView.width.Goals as goal
use Rattle.std.proofs.lemmas.Grind.{common_steps}

pub returns-then-from-len : goal.returns-then-from-len
returns-then-from-len c = grind (arith, common_steps, c.in-Stable.is, c.if-from-len.true, c.len.ensures.count, c.from.ensures, c.schema.ensures.lawful, c.width.ensures.columns, c.schema.ensures.columns, stable_width, length-row_of)

pub returns-else-from-len : goal.returns-else-from-len
returns-else-from-len c =
    grind (arith, common_steps, c.in-Stable.is, c.if-from-len.false, c.len.ensures.count, c.from.ensures, length-row_of, outside)

pub returns-in-Inserted : goal.returns-in-Inserted
returns-in-Inserted c = grind (arith, common_steps, c.in-Inserted.is, c.cells.ensures, length-row_of)
