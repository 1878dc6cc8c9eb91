use Rattle.std.proofs.Common.{ℕ, ◌+◌, ◌≤◌, ◌++◌, ◌∙◌, length, ap, sym, subst, arith}
use Rattle.std.specs.List.{All}
use Rattle.std.proofs.lemmas.List.Elements.{All-nil}
use Rattle.counted.specs.Shapes.{IsChild, all_items}
use Rattle.counted.proofs.Places.{depth_all}
use Rattle.counted.proofs.node.grown.above.Goals as goal

pub invariant_of-result : goal.invariant_of-result
invariant_of-result c =
    let one = c.push_node.new.out.items in
    let two = c.push_node-2.new.out.items in
    let none = subst (All (IsChild c.args.left.depth)) (sym c.in_ok-children.ensures.items) (All-nil (IsChild c.args.left.depth)) in
    let P : ℕ → Type 0 = λ n. All (IsChild n) one in
    let each = c.in_ok-push_node-2.ensures.each (subst P c.requires.depth (c.in_ok-push_node.ensures.each none)) in
    let count = c.in_ok-push_node-2.ensures.count
    ∙ ap (λ n. n + 1) (c.in_ok-push_node.ensures.count ∙ ap (λ cs. length cs + 1) c.in_ok-children.ensures.items) in
    let some : 1 ≤ length two = omega (arith, count) in
    let Q : ℕ → Type 0 = λ n. All (IsChild n) two in
    record { some = some; room = omega (arith, count); each = subst Q (sym (depth_all c.args.right.depth two each some)) each }

pub returns-clause-width : goal.returns-clause-width
returns-clause-width c =
    c.in_ok-push_node-2.ensures.count ∙ ap (λ n. n + 1)
    (c.in_ok-push_node.ensures.count ∙ ap (λ cs. length cs + 1) c.in_ok-children.ensures.items)

pub returns-clause-items : goal.returns-clause-items
returns-clause-items c =
    c.in_ok-push_node-2.ensures.items ∙ ap (λ xs. xs ++ c.args.right.items)
    (c.in_ok-push_node.ensures.items ∙ ap (λ cs. all_items cs ++ c.args.left.items) c.in_ok-children.ensures.items)
