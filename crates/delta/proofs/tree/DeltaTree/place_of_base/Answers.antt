use Rattle.delta.proofs.SearchLemmas.{base_cmp-closed}
use Rattle.delta.proofs.tree.DeltaTree.place_of_base.Goals as goal

pub place-requires : goal.place-requires
place-requires c = base_cmp-closed c.args.self.now.key_cols
