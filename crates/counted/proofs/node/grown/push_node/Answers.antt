use Rattle.std.proofs.Common.{◌++◌, ◌∙◌, ap, sym, subst}
use Rattle.std.specs.List.{All}
use Rattle.std.proofs.lemmas.List.Elements.{All-push}
use Rattle.counted.specs.Shapes.{IsChild, all_items}
use Rattle.counted.proofs.Places.{items-push}
use Rattle.counted.proofs.node.grown.push_node.Goals as goal

pub returns-clause-items : goal.returns-clause-items
returns-clause-items c =
    let child = c.in_ok-new.field-0 in
    ap all_items c.in_ok-push.ensures.items ∙ items-push c.args.out.now.items child
    ∙ ap (λ xs. all_items c.args.out.now.items ++ xs) c.in_ok-new.ensures.items

pub returns-clause-each : goal.returns-clause-each
returns-clause-each c = λ each.
    subst (All (IsChild c.args.node.depth)) (sym c.in_ok-push.ensures.items)
    (All-push (IsChild c.args.node.depth) c.args.out.now.items c.in_ok-new.field-0 each c.in_ok-new.ensures.counts)
