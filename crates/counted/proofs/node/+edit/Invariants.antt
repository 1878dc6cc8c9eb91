use Rattle.std.proofs.Common.{◌+◌, ◌*◌}
use Rattle.counted.proofs.node.+edit.Given as goal

-- a node stands above its children, and a child above its node
abbrev pub decreases-Child::edit_in_place : goal.decreases-Child::edit_in_place
decreases-Child::edit_in_place l = 2 * l.self.now.node.value.depth + 2

abbrev pub decreases-Node::edit_in_place : goal.decreases-Node::edit_in_place
decreases-Node::edit_in_place l = 2 * l.self.now.depth + 1
