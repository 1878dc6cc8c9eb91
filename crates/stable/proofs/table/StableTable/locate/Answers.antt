use Rattle.std.proofs.Common.{arith}
use Rattle.stable.proofs.StableLemmas.{stable_sorted}
use Rattle.stable.proofs.RankLemmas.{there-at_rank}
use Rattle.stable.proofs.table.StableTable.locate.Goals as goal
use Rattle.std.proofs.lemmas.Grind.{common_steps}

pub returns-clause-there : goal.returns-clause-there
returns-clause-there c = grind (arith, common_steps, c.has_key_at.ensures, c.rank_of-place.ensures.rank, c.rank_of-place.ensures.lawful, there-at_rank, stable_sorted)
