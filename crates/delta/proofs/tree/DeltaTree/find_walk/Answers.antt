use Rattle.std.proofs.Common.{List, ap, subst}
use Rattle.std.proofs.lemmas.Float.{T_from_true}
use Rattle.model.specs.declared.entry.Entry.{Entry}
use Rattle.delta.specs.Tree.{Tree}
use Rattle.model.specs.Entries.{is_delete}
use Rattle.delta.specs.Positions.{past_where}
use Rattle.delta.specs.Walks.{IsWalk}
use Rattle.delta.proofs.CountedLemmas.{placed_from_lawful}
use Rattle.delta.proofs.RidLemmas.{gap_from, past-where}
use Rattle.delta.proofs.WalkLemmas.{walk_is}
use Rattle.delta.proofs.tree.DeltaTree.find_walk.Goals as goal

pub place-place-requires : goal.place-place-requires
place-place-requires c = record { met = (c.requires, placed_from_lawful c.self.inside.tree.entries c.self.invariant.placed) }

pub returns-clause-walk : goal.returns-clause-walk
returns-clause-walk c =
    let list = ap (λ (w : Tree). w.entries) c.self.view_is in
    let n = c.place-place.result.index in
    subst (λ (xs : List Entry). IsWalk xs c.args.rid c.next_row.result n) list
    (walk_is c.self.inside.key_cols c.args.rid c.next_row.result c.self.inside.tree.entries n (T_from_true _ c.self.invariant.ordered)
    (gap_from (λ x. past_where (is_delete x)) is_delete (λ x. past-where (is_delete x)) c.args.rid c.self.inside.tree.entries n
    c.place-place.ensures.place) c.next_row.ensures)
