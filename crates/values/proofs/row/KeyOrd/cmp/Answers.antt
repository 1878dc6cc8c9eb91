use Rattle.std.proofs.Common.{rules}
use Rattle.values.proofs.row.KeyOrd.cmp.Goals as goal

pub returns : goal.returns
returns c = search rules
