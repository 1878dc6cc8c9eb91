use Rattle.std.proofs.Common.{◌≡◌, ◌<◌, ◌≤◌, List, [], ◌∷◌, ◌++◌, length, drop, ap, sym, ◌∙◌, arith}
use Rattle.std.specs.Prelude.{Some, slice_get}
use Rattle.model.specs.declared.entry.Entry.{Entry}
use Rattle.counted.specs.declared.node.Child.{Child}
use Rattle.counted.specs.Shapes.{all_items}
use Rattle.counted.proofs.InPlace.{sized_law}
use Rattle.counted.proofs.Places.{at_inner, child_some, items_from}
use Rattle.counted.proofs.node.Node.lead.Goals as goal

first_front : (xs ys : List Entry) (e : Entry) → 1 ≤ length xs → slice_get (xs ++ ys) 0 ≡ Some e → slice_get xs 0 ≡ Some e
first_front [] ys e some first = absurd (omega arith)
first_front (x ∷ xs) ys e some first = first

pub returns-in-Inner-clause-lead : goal.returns-in-Inner-clause-lead
returns-in-Inner-clause-lead c = λ e first.
    let at = at_inner c.self.view_is c.self.invariant c.in-Inner.is in
    let children = c.in-Inner.children.items in
    let some : 0 < length children = omega (arith, at.each.some) in
    let is = at.each.each 0 c.index-in-Inner.result.now some in
    let whole = ap (λ (es : List Entry). slice_get es 0) (sym (items_from children 0 c.index-in-Inner.result.now some) ∙ sym at.items) in
    ap (λ (child : Child). child.lead) c.index-in-Inner.ensures
    ∙ is.lead e (first_front _ (all_items (drop 1 children)) e (child_some _ _ is) (whole ∙ first))

pub returns-in-Inner-clause-sized : goal.returns-in-Inner-clause-sized
returns-in-Inner-clause-sized c = sized_law c.self.inside.body c.args.self.now c.self.view_is c.self.invariant c.requires.full
