use Rattle.test_snapshots.proofs.FoldLemmas.{are_consecutive}
use Rattle.test_snapshots.proofs.folds.stack.Goals as goal

pub returns : goal.returns
returns c =
    let low = c.in_ok-lower.ensures in
    let up = c.in_ok-upper.ensures in
    are_consecutive c.in_ok-schema.schema c.in_ok-table.table c.in_ok-lower.lower.after low.0 up.0 c.in_ok-lower.lower.tree
    c.in_ok-upper.upper.tree low.4 low.1 low.2 up.1
