use Rattle.std.proofs.Common.{arith}
use Rattle.counted.proofs.node.bulk.share_of.Goals as goal

pub returns-then-left-gt-MAX_WIDTH-clause-rest : goal.returns-then-left-gt-MAX_WIDTH-clause-rest
returns-then-left-gt-MAX_WIDTH-clause-rest c = λ less. omega arith
