use Rattle.std.proofs.Common.{◌≡◌, ℕ, ap, subst, arith}
use Rattle.delta.specs.Tree.{Tree}
use Rattle.delta.specs.Search.{insert_cmp, stands_before, IsSplit}
use Rattle.delta.proofs.SearchLemmas.{insert_cmp-closed}
use Rattle.delta.proofs.tree.DeltaTree.place_of_insert.Goals as goal
use Rattle.std.proofs.lemmas.Grind.{common_steps}

pub place-requires : goal.place-requires
place-requires c = grind (arith, common_steps, insert_cmp-closed)

pub returns-clause-split : goal.returns-clause-split
returns-clause-split c =
    let width : c.self.inside.key_cols ≡ c.args.self.now.key_cols = ap (λ (t : Tree). t.key_cols) c.self.view_is in
    subst
    (λ (k : ℕ). IsSplit (stands_before (insert_cmp k c.args.key.now) c.args.sid) c.args.self.now.entries c.place.result.index)
    width c.place.ensures.split
