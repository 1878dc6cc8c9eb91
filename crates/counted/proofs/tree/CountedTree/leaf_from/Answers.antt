use Rattle.std.proofs.Common.{drop, ap, sym, ◌∙◌, subst}
use Rattle.std.proofs.lemmas.List.{append-nil}
use Rattle.counted.specs.Roots.{view_of_root}
use Rattle.counted.specs.Paths.{Begins}
use Rattle.counted.proofs.Paths.{leaf_at, from_behind}
use Rattle.counted.proofs.tree.CountedTree.leaf_from.Goals as goal

pub returns-clause-rest : goal.returns-clause-rest
returns-clause-rest c =
    let items = ap (λ v. v.items) c.deref.ensures ∙ sym (ap (λ t. t.entries) (ap view_of_root c.in-Some.is))
    ∙ ap (λ t. t.entries) c.self.view_is in
    leaf_at c.args.self.now.entries c.leaf_from.result.0.now c.leaf_from.result.1.now c.args.at
    (subst (Begins _) (append-nil _ ∙ ap (drop c.args.at) items) c.leaf_from.ensures.rest)

pub returns-clause-children : goal.returns-clause-children
returns-clause-children c =
    let items = ap (λ v. v.items) c.deref.ensures ∙ sym (ap (λ t. t.entries) (ap view_of_root c.in-Some.is))
    ∙ ap (λ t. t.entries) c.self.view_is in
    from_behind c.args.self.now.entries c.leaf_from.result.0.now c.leaf_from.result.1.now c.args.at c.leaf_from.ensures.children
    (subst (Begins _) (append-nil _ ∙ ap (drop c.args.at) items) c.leaf_from.ensures.rest)
