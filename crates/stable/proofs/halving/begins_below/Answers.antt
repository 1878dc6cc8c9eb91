use Rattle.stable.proofs.HalvingLemmas.{no_numbers}
use Rattle.stable.proofs.halving.begins_below.Goals as goal
use Rattle.std.proofs.Common.{sym}

pub returns-in_default : goal.returns-in_default
returns-in_default c = sym (no_numbers c.args.number c.values.result c.args.block.now c.values.ensures c.in_default.not-Ints)
