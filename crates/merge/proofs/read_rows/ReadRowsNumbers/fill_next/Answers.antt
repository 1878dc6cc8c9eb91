use Rattle.std.proofs.Common.{subst}
use Rattle.merge.specs.ReadRows.{HasReadColumn}
use Rattle.merge.proofs.read_rows.ReadRowsNumbers.fill_next.Goals as goal

pub returns-in-Packed-clause-column : goal.returns-in-Packed-clause-column
returns-in-Packed-clause-column c = λ ty has.
    c.fill_next.ensures.column ty (subst (HasReadColumn ty c.args.col) c.in-Packed.is has)

pub returns-in-Tree-clause-column : goal.returns-in-Tree-clause-column
returns-in-Tree-clause-column c = λ ty has.
    c.fill_next-in-Tree.ensures.column ty (subst (HasReadColumn ty c.args.col) c.in-Tree.is has)
