use Rattle.std.proofs.Common.{arith}
use Rattle.counted.proofs.Leaves.{leaf_front}
use Rattle.counted.proofs.iter.next_leaf.Goals as goal

pub returns-else-leaf-left-clause-rest : goal.returns-else-leaf-left-clause-rest
returns-else-leaf-left-clause-rest c =
    leaf_front c.leaf_after.result.0.now c.args.tree.now.entries c.args.from c.args.left (omega arith) c.leaf_after.ensures.rest
