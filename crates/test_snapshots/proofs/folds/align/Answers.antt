use Rattle.test_snapshots.proofs.FoldLemmas.{are_aligned}
use Rattle.test_snapshots.proofs.folds.align.Goals as goal

pub returns : goal.returns
returns c =
    let one = c.in_ok-x.ensures in
    let two = c.in_ok-y.ensures in
    are_aligned c.in_ok-schema.schema c.in_ok-table.table one.0 two.0 c.in_ok-x.x.tree c.in_ok-y.y.tree one.4 one.1 two.1
