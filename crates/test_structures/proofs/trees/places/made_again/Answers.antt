use Rattle.std.proofs.Common.{◌≡◌, ◌∙◌, ◌++◌, sym, ap, subst}
use Rattle.std.proofs.lemmas.List.{append-nil}
use Rattle.model.specs.Entries.{IsLawful}
use Rattle.test_structures.proofs.trees.places.made_again.Goals as goal

pub from_sorted-requires : goal.from_sorted-requires
from_sorted-requires c =
    let copied = c.loop-entry.entries.items in
    let entries = c.args.tree.now.entries in
    let whole : entries ≡ copied =
    sym c.loop-entry.invariant ∙ ap (λ rest. copied ++ rest) c.in-None.ensures.steps.0 ∙ append-nil copied in
    subst (λ es. IsLawful 1 es) whole (subst (λ n. IsLawful n entries) c.requires.keyed c.iter-entry-items.ensures.lawful)
