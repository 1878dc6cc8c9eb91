use Rattle.std.proofs.Common.{◌≡◌, ◌+◌, ◌≤◌, ◌++◌, length, refl, ap, sym, ◌∙◌, subst, arith, length-append}
use Rattle.counted.specs.declared.node.TheConstants.{MIN_WIDTH}
use Rattle.counted.specs.Shapes.{AreChildren, all_items, depth_of}
use Rattle.counted.proofs.Places.{at_inner, at_leaf, deep_children, regrown, depth_all, grown_result_same}
use Rattle.counted.proofs.node.Node.joined.Goals as goal

pub unreachable-requires : goal.unreachable-requires
unreachable-requires c =
    let one = at_leaf c.self.view_is c.self.invariant c.in-Leaf.is in
    let two = at_inner c.right.view_is c.right.invariant c.in-Inner-body.is in
    omega (arith, c.requires.depth, one.depth, two.depth, deep_children _ two.each)

pub unreachable-requires-in-Leaf-body-2 : goal.unreachable-requires-in-Leaf-body-2
unreachable-requires-in-Leaf-body-2 c =
    let one = at_inner c.self.view_is c.self.invariant c.in-Inner.is in
    let two = at_leaf c.right.view_is c.right.invariant c.in-Leaf-body-2.is in
    omega (arith, c.requires.depth, one.depth, two.depth, deep_children _ one.each)

pub grown_inner-requires-clause-each : goal.grown_inner-requires-clause-each
grown_inner-requires-clause-each c =
    let one = at_inner c.self.view_is c.self.invariant c.in-Inner.is in
    let left : c.deref-in-Inner-body-2.result.now ≡ c.in-Inner.one.items = c.deref-in-Inner-body-2.ensures.value in
    let are = subst AreChildren (sym left) one.each in
    let some = are.some in
    regrown c.deref-in-Inner-body-2.result.now c.in_ok-both_inner-in-Inner-body-2.field-0.items
    (depth_of c.deref-in-Inner-body-2.result.now) are refl c.in_ok-both_inner-in-Inner-body-2.ensures.each
    (omega (arith, c.in_ok-both_inner-in-Inner-body-2.ensures.count))

pub returns-in_ok-both_leaves-in-Leaf-body : goal.returns-in_ok-both_leaves-in-Leaf-body
returns-in_ok-both_leaves-in-Leaf-body c =
    let one = at_leaf c.self.view_is c.self.invariant c.in-Leaf.is in
    let two = at_leaf c.right.view_is c.right.invariant c.in-Leaf-body.is in
    let left : c.deref.result.now ≡ c.args.self.now.items = c.deref.ensures.value ∙ sym one.items in
    let right : c.deref-in-Leaf-body.result.now ≡ c.args.right.now.items = c.deref-in-Leaf-body.ensures.value ∙ sym two.items in
    let new = c.in_ok-both_leaves-in-Leaf-body.field-0.items in
    let same : new ≡ c.args.self.now.items ++ c.args.right.now.items = c.in_ok-both_leaves-in-Leaf-body.ensures
    ∙ ap (λ xs. xs ++ c.deref-in-Leaf-body.result.now) left ∙ ap (λ xs. c.args.self.now.items ++ xs) right in
    let long = ap length same in
    let wide : MIN_WIDTH ≤ length new = omega (
      arith,
      c.requires.enough,
      one.width,
      two.width,
      ap length one.items,
      ap length two.items,
      length-append c.args.self.now.items c.args.right.now.items,
    )
    in
    grown_result_same _ _ _ _ _ _ _ (sym one.depth) wide same c.grown_leaf.ensures

pub returns-in_ok-both_inner-in-Inner-body-2 : goal.returns-in_ok-both_inner-in-Inner-body-2
returns-in_ok-both_inner-in-Inner-body-2 c =
    let one = at_inner c.self.view_is c.self.invariant c.in-Inner.is in
    let two = at_inner c.right.view_is c.right.invariant c.in-Inner-body-2.is in
    let left = c.deref-in-Inner-body-2.ensures.value in
    let right = c.deref-in-Inner-body-2-2.ensures.value in
    let new = c.in_ok-both_inner-in-Inner-body-2.field-0.items in
    let count = c.in_ok-both_inner-in-Inner-body-2.ensures.count in
    let a = ap length left in
    let b = ap length right in
    let some : 1 ≤ length new = omega (arith, count, one.each.some, a) in
    let depth = depth_all (depth_of c.deref-in-Inner-body-2.result.now) new c.in_ok-both_inner-in-Inner-body-2.ensures.each some in
    let same : all_items new ≡ c.args.self.now.items ++ c.args.right.now.items = c.in_ok-both_inner-in-Inner-body-2.ensures.items
    ∙ ap (λ xs. all_items xs ++ all_items c.deref-in-Inner-body-2-2.result.now) left
    ∙ ap (λ xs. all_items c.in-Inner.one.items ++ all_items xs) right
    ∙ ap (λ xs. xs ++ all_items c.in-Inner-body-2.two.items) (sym one.items)
    ∙ ap (λ xs. c.args.self.now.items ++ xs) (sym two.items) in
    let wide : MIN_WIDTH ≤ length new = omega (arith, c.requires.enough, one.width, two.width, count, a, b) in
    let level : 1 + depth_of new ≡ c.args.self.now.depth = omega (arith, depth, one.depth, ap depth_of left) in
    grown_result_same _ _ _ _ _ _ _ level wide same c.grown_inner.ensures
