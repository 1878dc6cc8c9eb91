use Rattle.std.proofs.Common.{◌≡◌, ℕ, T, sym, ap, ◌∙◌, subst, refl}
use Rattle.std.specs.Prelude.{None, Some, slice_get}
use Rattle.std.specs.Option.{option_copied}
use Rattle.std.proofs.lemmas.Float.{T_from_true}
use Rattle.model.specs.Entries.{are_ordered}
use Rattle.delta.specs.Tree.{Tree}
use Rattle.delta.specs.Changes.{row_at}
use Rattle.delta.proofs.CountedLemmas.{some_get, some_within, none_within}
use Rattle.delta.proofs.LookupLemmas.{inserted_row-split, head_at, head_none}
use Rattle.delta.proofs.tree.DeltaTree.insert_at.Goals as goal

pub returns-in-Some : goal.returns-in-Some
returns-in-Some c =
    let t = c.args.self.now in
    let n = c.args.place.now.index in
    let x = c.in-Some.entry.now in
    let width : c.self.inside.key_cols ≡ t.key_cols = ap (λ (w : Tree). w.key_cols) c.self.view_is in
    let ordered : T (are_ordered t.key_cols t.entries) = subst (λ (w : Tree). T (are_ordered w.key_cols w.entries)) c.self.view_is
    (T_from_true _ c.self.invariant.ordered) in
    let at : Some x ≡ slice_get t.entries n = sym (ap option_copied c.in-Some.is) ∙ c.entry.ensures t.entries c.requires.rest in
    c.inserted_at.ensures
    ∙ ap (λ (k : ℕ). row_at k c.args.sid c.args.key.now x) width
    ∙ head_at (row_at t.key_cols c.args.sid c.args.key.now) None t.entries t.entries n x refl (some_within t.entries n x at)
    (some_get t.entries n x x at)
    ∙ sym (inserted_row-split t.key_cols c.args.sid c.args.key.now t.entries n ordered c.requires.split)

pub returns-in-None : goal.returns-in-None
returns-in-None c =
    let t = c.args.self.now in
    let n = c.args.place.now.index in
    let ordered : T (are_ordered t.key_cols t.entries) = subst (λ (w : Tree). T (are_ordered w.key_cols w.entries)) c.self.view_is
    (T_from_true _ c.self.invariant.ordered) in
    head_none (row_at t.key_cols c.args.sid c.args.key.now) None t.entries t.entries n refl
    (none_within t.entries n (sym (c.entry.ensures t.entries c.requires.rest) ∙ ap option_copied c.in-None.is))
    ∙ sym (inserted_row-split t.key_cols c.args.sid c.args.key.now t.entries n ordered c.requires.split)
