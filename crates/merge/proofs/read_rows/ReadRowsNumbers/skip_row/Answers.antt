use Rattle.std.proofs.Common.{subst}
use Rattle.merge.specs.ReadRows.{HasReadColumn}
use Rattle.merge.proofs.read_rows.ReadRowsNumbers.skip_row.Goals as goal

pub returns-in-Packed-clause-column : goal.returns-in-Packed-clause-column
returns-in-Packed-clause-column c = λ ty col has. c.skip_row.ensures.column ty col (subst (HasReadColumn ty col) c.in-Packed.is has)

pub returns-in-Tree-clause-column : goal.returns-in-Tree-clause-column
returns-in-Tree-clause-column c = λ ty col has. c.skip_row-in-Tree.ensures.column ty col (subst (HasReadColumn ty col) c.in-Tree.is has)
