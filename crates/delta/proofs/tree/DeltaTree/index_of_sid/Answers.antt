use Rattle.delta.proofs.SearchLemmas.{first_cmp-closed}
use Rattle.delta.proofs.tree.DeltaTree.index_of_sid.Goals as goal

pub place-requires : goal.place-requires
place-requires c = first_cmp-closed c.args.self.now.key_cols
