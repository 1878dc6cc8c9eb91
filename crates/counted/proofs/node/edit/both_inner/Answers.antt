use Rattle.std.proofs.Common.{ℕ, sym, subst}
use Rattle.std.specs.List.{All}
use Rattle.std.proofs.lemmas.List.Elements.{All-nil}
use Rattle.counted.specs.Shapes.{IsChild, depth_of}
use Rattle.counted.proofs.node.edit.both_inner.Goals as goal

pub returns-clause-each : goal.returns-clause-each
returns-clause-each c =
    let depth = depth_of c.args.left.now in
    let one = c.in_ok-push_children.ensures.each depth
    (subst (All (IsChild depth)) (sym c.in_ok-children.ensures.items) (All-nil (IsChild depth))) c.requires.left.each in
    let P : ℕ → Type 0 = λ d. All (IsChild d) c.args.right.now in
    c.in_ok-push_children-2.ensures.each depth one (subst P (sym c.requires.depth) c.requires.right.each)
