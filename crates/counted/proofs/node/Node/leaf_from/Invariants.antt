use Rattle.std.proofs.Common.{◌<◌, ◌++◌, length, drop}
use Rattle.std.specs.List.{All}
use Rattle.counted.specs.Shapes.{all_items}
use Rattle.counted.specs.Paths.{Begins, HasSome}
use Rattle.counted.proofs.node.Node.leaf_from.Given as goal

abbrev pub invariant-loop-node : goal.invariant-loop-node
invariant-loop-node l = record {
  within : l.at < length l.node.items;
  some : All HasSome l.behind;
  begins : Begins (drop l.at l.node.items ++ all_items l.behind) (drop l.fn.at l.self.items ++ all_items l.fn.behind);
}

abbrev pub decreases-loop-node : goal.decreases-loop-node
decreases-loop-node l = l.node.depth
