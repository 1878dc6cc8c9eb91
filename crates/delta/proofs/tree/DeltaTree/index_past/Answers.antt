use Rattle.delta.proofs.SearchLemmas.{past_cmp-closed}
use Rattle.delta.proofs.tree.DeltaTree.index_past.Goals as goal

pub place-requires : goal.place-requires
place-requires c = past_cmp-closed c.args.self.now.key_cols
