use Rattle.std.proofs.Common.{◌≡◌, T, refl, ap, ◌∙◌, subst}
use Rattle.std.proofs.lemmas.Float.{T_from_true}
use Rattle.values.specs.Shape.{key_of}
use Rattle.values.specs.declared.row.Key.{Key}
use Rattle.model.specs.Entries.{are_ordered}
use Rattle.delta.specs.Tree.{Tree}
use Rattle.delta.specs.Positions.{deletes_ascend, deletes_below, past_where, IsGapAt}
use Rattle.delta.specs.declared.folds.Fold.TheVariants.{Put}
use Rattle.delta.proofs.CountedLemmas.{placed_from_lawful}
use Rattle.delta.proofs.RidLemmas.{gap_from, past-where}
use Rattle.delta.proofs.GapLemmas.{gap_at, gap_at-only}
use Rattle.delta.proofs.tree.DeltaTree.find_gap.Goals as goal

pub place-place-requires : goal.place-place-requires
place-place-requires c = record { met = (c.requires.rid, placed_from_lawful c.self.inside.tree.entries c.self.invariant.placed) }

pub returns : goal.returns
returns c =
    let t = c.args.self.now in
    let rid = c.args.rid in
    let k = c.key.result.now in
    let n = c.place-place.result.index in
    let s = c.next_row-sid.result in
    let ordered : T (are_ordered t.key_cols t.entries) = subst (λ (w : Tree). T (are_ordered w.key_cols w.entries)) c.self.view_is
    (T_from_true _ c.self.invariant.ordered) in
    let asc : T (deletes_ascend t.entries) = T_from_true _ c.requires.ascending in
    let key : k ≡ key_of t.key_cols c.args.row.now = c.key.ensures ∙ ap (λ (w : Tree). key_of w.key_cols c.args.row.now) c.self.view_is in
    let inside = gap_at c.self.inside.key_cols k rid c.self.inside.tree.entries s n c.next_row-sid.ensures
    (gap_from (λ x. past_where (deletes_below k x)) (deletes_below k) (λ x. past-where (deletes_below k x)) rid c.self.inside.tree.entries n
    c.place-place.ensures.place) in
    let at : IsGapAt rid (key_of t.key_cols c.args.row.now) t.entries s n =
    subst (λ (p : Key × Tree). IsGapAt rid p.0 p.1.entries s n) (λ i. (key i, c.self.view_is i)) inside in
    record {
      fold = (at, refl);
      only = λ other m there.
          let same = gap_at-only t.key_cols (key_of t.key_cols c.args.row.now) rid t.entries s n other m ordered asc at there in
          λ i. Put (same.0 i) (same.1 i) (same.1 i);
    }
