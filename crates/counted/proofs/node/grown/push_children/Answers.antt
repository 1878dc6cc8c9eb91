use Rattle.std.proofs.Common.{◌++◌, [], ◌∷◌, length, get_or, ap, sym, ◌∙◌, subst, arith, append_assoc, length-append}
use Rattle.std.specs.List.{All}
use Rattle.std.proofs.lemmas.List.Elements.{All-push}
use Rattle.counted.specs.Shapes.{IsChild, items_of, all_items}
use Rattle.counted.proofs.Places.{items-more, items-push, same_is_child, same_items}
use Rattle.counted.proofs.node.grown.push_children.Goals as goal

pub loop-child-preserved : goal.loop-child-preserved
loop-child-preserved c =
    let made = c.loop-child.out.items in
    let old = all_items c.args.out.now.items in
    let children = c.args.children.now in
    let i = c.loop-child.child-index in
    let child = c.child-item.result in
    let new = c.in_ok-copy.field-0 in
    let here = same_items child new c.in_ok-copy.ensures ∙ ap items_of c.child-item.is in
    let lt = c.loop-child-test.true in
    let grown = ap length c.in_ok-push.ensures.items ∙ length-append made (new ∷ []) in
    record {
      items = ap all_items c.in_ok-push.ensures.items
          ∙ items-push made new
          ∙ ap (λ xs. all_items made ++ xs) here
          ∙ ap (λ xs. xs ++ items_of (get_or children i child)) c.loop-child.invariant.items
          ∙ append_assoc old _ _
          ∙ ap (λ xs. old ++ xs) (sym (items-more children i child lt));
      count = omega (arith, grown, c.loop-child.invariant.count);
      each = λ depth before all.
          subst (All (IsChild depth)) (sym c.in_ok-push.ensures.items)
          (All-push (IsChild depth) made new (c.loop-child.invariant.each depth before all)
          (same_is_child depth child new c.in_ok-copy.ensures (subst (IsChild depth) (sym c.child-item.is) (all i child lt))));
    }
