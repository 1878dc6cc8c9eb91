use Rattle.std.proofs.Common.{◌≡◌, refl, List, length, sym, ap, subst}
use Rattle.std.proofs.lemmas.Float.{T_from_true}
use Rattle.std.specs.Prelude.{slice_get}
use Rattle.counted.specs.Trees.{IsDepth}
use Rattle.model.specs.declared.entry.Entry.{Entry}
use Rattle.delta.specs.Tree.{Tree}
use Rattle.model.specs.Entries.{is_delete}
use Rattle.delta.specs.Positions.{past_where, IsAtRid}
use Rattle.delta.specs.declared.places.Place.{Place}
use Rattle.delta.proofs.CountedLemmas.{placed_from_lawful}
use Rattle.delta.proofs.RidLemmas.{gap_from, past-where}
use Rattle.delta.proofs.WalkLemmas.{walk_is}
use Rattle.delta.proofs.RowLemmas.{row_is}
use Rattle.delta.proofs.PositionsLemmas.{row_only}
use Rattle.delta.proofs.tree.DeltaTree.find_rid.Goals as goal

pub place_of-found-requires : goal.place_of-found-requires
place_of-found-requires g c = record { met = (c.requires, placed_from_lawful c.self.inside.tree.entries c.self.invariant.placed) }

pub returns : goal.returns
returns g c =
    let k = c.self.inside.key_cols in
    let rid = c.args.rid in
    let es = c.self.inside.tree.entries in
    let n = c.place_of-found.result.index in
    let s = c.next_row-sid.result in
    let list : es ≡ c.args.self.now.entries = ap (λ (w : Tree). w.entries) c.self.view_is in
    let ordered = T_from_true _ c.self.invariant.ordered in
    let start = walk_is k rid s es n ordered (gap_from (λ x. past_where (is_delete x)) is_delete (λ x. past-where (is_delete x)) rid es n
    c.place_of-found.ensures.place) c.next_row-sid.ensures in
    let found = c.row_of.ensures (slice_get es n) c.place_of-found.ensures.at.there in
    let at = subst (λ (place : Place). IsAtRid es rid place) (sym found) (row_is k rid s es n ordered start) in
    record {
      at = subst (λ (xs : List Entry). IsAtRid xs rid c.row_of.result) list at;
      only = λ place there. row_only k es ordered rid place c.row_of.result
          (subst (λ (xs : List Entry). IsAtRid xs rid place) (sym list) there) at;
      steps = (
        c.self.inside.tree.depth,
        c.place_of-found.ensures.steps (λ weight. refl),
        subst
            (λ (xs : List Entry). IsDepth c.self.inside.tree.depth (length xs)) list c.place_of-found.ensures.levels,
      );
    }
