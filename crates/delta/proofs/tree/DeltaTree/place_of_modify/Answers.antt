use Rattle.delta.proofs.SearchLemmas.{modify_cmp-closed}
use Rattle.delta.proofs.tree.DeltaTree.place_of_modify.Goals as goal

pub place-requires : goal.place-requires
place-requires c = modify_cmp-closed c.args.self.now.key_cols c.args.col
