use Rattle.std.proofs.Common.{arith}
use Rattle.counted.proofs.node.edit.root_of.Goals as goal

pub returns-clause-root : goal.returns-clause-root
returns-clause-root c = grind arith
