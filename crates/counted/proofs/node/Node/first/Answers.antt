use Rattle.std.proofs.Common.{◌<◌, length, drop, get_or, ap, sym, ◌∙◌, arith}
use Rattle.std.specs.Prelude.{Some, slice_get}
use Rattle.std.proofs.lemmas.Option.{slice_get-get_or}
use Rattle.counted.specs.Shapes.{items_of, all_items}
use Rattle.counted.proofs.Places.{at_inner, at_leaf, child_some, items_from}
use Rattle.counted.proofs.Descents.{get-left}
use Rattle.counted.proofs.node.Node.first.Goals as goal

pub loop-entries-preserved : goal.loop-entries-preserved
loop-entries-preserved g c =
    let at = at_inner c.read.ensures.view c.read.ensures.balanced c.in-Inner.is in
    let cs = c.in-Inner.children.items in
    let d = c.index-in-Inner.result.now in
    let lt : 0 < length cs = omega (arith, at.each.some) in
    let e = ap (λ v. v.items) c.deref-node.ensures ∙ ap items_of c.index-in-Inner.ensures in
    let some = child_some _ _ (at.each.each 0 d lt) in
    record {
      some = omega (arith, ap length e);
      first =
          ap (λ es. slice_get es 0) e ∙ sym (get-left (items_of (get_or cs 0 d)) (all_items (drop 1 cs)) 0 some)
          ∙ ap (λ es. slice_get es 0) (sym (items_from cs 0 d lt)) ∙ ap (λ es. slice_get es 0) (sym at.items)
          ∙ c.loop-entries.invariant.first;
    }

pub returns-in-Leaf : goal.returns-in-Leaf
returns-in-Leaf g c =
    let at = at_leaf c.read.ensures.view c.read.ensures.balanced c.in-Leaf.is in
    let lt : 0 < length c.in-Leaf.entries.items = omega (arith, ap length at.items, c.loop-entries.invariant.some) in
    sym c.loop-entries.invariant.first ∙ ap (λ es. slice_get es 0) at.items
    ∙ slice_get-get_or c.in-Leaf.entries.items 0 c.index.result.now lt ∙ ap Some (sym c.index.ensures)
