use Rattle.std.proofs.Common.{◌≡◌, ap, sym, ◌∙◌}
use Rattle.std.specs.Prelude.{Some, slice_get}
use Rattle.layers.specs.Over.{AreConsecutive}
use Rattle.layers.proofs.RestLemmas.{tree_from, walk_is, step}
use Rattle.layers.proofs.propagation.fold_only.Goals as goal

pub fold_entry-requires : goal.fold_entry-requires
fold_entry-requires c =
    let lower = c.args.lower.now in
    let upper = c.args.upper.now in
    let w = c.requires.consecutive in
    let at : slice_get upper.entries 0 ≡ Some c.in-Some.only.now = ap (λ es. slice_get es 0) (sym c.iter-entries.ensures.all ∙ c.in-Some.ensures.steps) in
    (step lower upper w 0 c.in_ok-tree.tree c.in-Some.only.now
    (c.in_ok-tree.ensures ∙ walk_is lower upper w ∙ ap (tree_from lower upper w) c.requires.only) at).0

pub returns : goal.returns
returns c =
    let lower = c.args.lower.now in
    let upper = c.args.upper.now in
    let at : slice_get upper.entries 0 ≡ Some c.in-Some.only.now = ap (λ es. slice_get es 0) (sym c.iter-entries.ensures.all ∙ c.in-Some.ensures.steps) in
    λ (w : AreConsecutive lower upper).
    let made = step lower upper w 0 c.in_ok-tree.tree c.in-Some.only.now
    (c.in_ok-tree.ensures ∙ walk_is lower upper w ∙ ap (tree_from lower upper w) c.requires.only) at in
    c.in_ok-fold_entry.ensures.ok made.0 ∙ made.1
