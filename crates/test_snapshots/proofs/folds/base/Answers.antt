use Rattle.test_snapshots.proofs.FoldLemmas.{no_rows}
use Rattle.test_snapshots.proofs.folds.base.Goals as goal

pub make_tree-requires : goal.make_tree-requires
make_tree-requires c = no_rows c.args.schema.now c.new-none.result c.new-none.ensures
