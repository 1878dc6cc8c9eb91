use Rattle.std.proofs.Common.{◌≡◌, sym, ap, ◌∙◌}
use Rattle.delta.specs.Tree.{Tree}
use Rattle.layers.specs.Over.{AreConsecutive}
use Rattle.layers.proofs.WalkLemmas.{folds_into_none, is_composed}
use Rattle.layers.proofs.propagation.fold_into_none.Goals as goal

pub returns : goal.returns
returns c =
    let lower = c.args.lower.now in
    let upper = c.args.upper.now in
    let tree = c.in_ok-copy.field-0 in
    let all = folds_into_none lower.key_cols lower.entries upper.entries c.requires.none in
    λ (w : AreConsecutive lower upper).
    let cols = ap (λ (t : Tree). t.key_cols) w.above.tree_is ∙ sym (ap (λ (t : Tree). t.key_cols) w.below.tree_is) in
    let made : tree ≡ record { key_cols = lower.key_cols; entries = upper.entries } =
    c.in_ok-copy.ensures ∙ (λ i. record { key_cols = cols i; entries = upper.entries }) in
    is_composed lower upper w (c.folds_to_composed.ensures w.schema) upper.entries all tree made
