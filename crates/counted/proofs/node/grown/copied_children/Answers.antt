use Rattle.std.proofs.Common.{◌++◌, [], ◌∷◌, length, get_or, ap, sym, ◌∙◌, subst, arith, length-append}
use Rattle.std.specs.List.{All}
use Rattle.std.proofs.lemmas.List.Elements.{All-push}
use Rattle.counted.specs.Shapes.{IsChild, items_of, all_items}
use Rattle.counted.proofs.Places.{items-more, items-push, same_is_child, same_items}
use Rattle.counted.proofs.node.grown.copied_children.Goals as goal

pub loop-child-preserved : goal.loop-child-preserved
loop-child-preserved c =
    let made = c.loop-child.out.items in
    let children = c.args.children.now in
    let i = c.loop-child.child-index in
    let child = c.child-item.result in
    let new = c.in_ok-copy.field-0 in
    let here = same_items child new c.in_ok-copy.ensures ∙ ap items_of c.child-item.is in
    let lt = c.loop-child-test.true in
    let grown = ap length c.push_reserved.ensures.items ∙ length-append made (new ∷ []) in
    record {
      items = ap all_items c.push_reserved.ensures.items
          ∙ items-push made new
          ∙ ap (λ xs. all_items made ++ xs) here
          ∙ ap (λ xs. xs ++ items_of (get_or children i child)) c.loop-child.invariant.items
          ∙ sym (items-more children i child lt);
      count = omega (arith, grown, c.loop-child.invariant.count);
      each = λ depth all.
          subst (All (IsChild depth)) (sym c.push_reserved.ensures.items)
          (All-push (IsChild depth) made new (c.loop-child.invariant.each depth all)
          (same_is_child depth child new c.in_ok-copy.ensures (subst (IsChild depth) (sym c.child-item.is) (all i child lt))));
      len = omega (arith, c.push_reserved.ensures.len, c.loop-child.invariant.len);
      room = c.push_reserved.ensures.capacity ∙ c.loop-child.invariant.room;
    }
