use Rattle.std.proofs.Common.{refl}
use Rattle.counted.proofs.Leaves.{entry_at}
use Rattle.counted.proofs.tree.CountedTree.get.Goals as goal

pub returns : goal.returns
returns c =
    entry_at c.args.self.now.entries c.args.at c.leaf_from.result.0.now _ c.index-leaf_from-0.result c.leaf_from.ensures.some refl
    c.leaf_from.ensures.rest
