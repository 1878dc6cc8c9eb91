use Rattle.std.proofs.Common.{arith}
use Rattle.counted.proofs.node.edit.replaced.Goals as goal

pub with_grown-requires-clause-full : goal.with_grown-requires-clause-full
with_grown-requires-clause-full c = omega arith
