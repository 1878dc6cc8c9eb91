use Rattle.std.proofs.Common.{ap, arith, length, refl, ◌∙◌}
use Rattle.counted.specs.Shapes.{all_items}
use Rattle.counted.proofs.BranchesLemmas.{at_end, begun, goes_down}
use Rattle.counted.proofs.Places.{at_inner, at_leaf}
use Rattle.counted.proofs.node.Node.path_to.Goals as goal

pub loop-node-init : goal.loop-node-init
loop-node-init c = record {
  capacity = omega (arith, c.new-branches.ensures.capacity);
  along = begun c.args.self.now c.args.end _ c.new-branches.ensures.items c.requires.root c.levels.ensures c.requires.within c.requires.few;
}

pub returns-in-Leaf : goal.returns-in-Leaf
returns-in-Leaf c =
    let at = at_leaf c.node.view_is c.node.invariant c.in-Leaf.is in
    at_end _ _ _ _ _ _ c.loop-node.invariant.along at c.deref.ensures.value refl

pub child_at-index-requires-clause-within : goal.child_at-index-requires-clause-within
child_at-index-requires-clause-within c =
    let at = at_inner c.node.view_is c.node.invariant c.in-Inner.is in
    let all = ap length at.items in
    let same = ap (λ cs. length (all_items cs)) c.deref-in-Inner.ensures.value in
    omega (arith, c.loop-node.invariant.along.within)

pub loop-node-preserved : goal.loop-node-preserved
loop-node-preserved c =
    let at = at_inner c.node.view_is c.node.invariant c.in-Inner.is in
    let d = c.index.result.now in
    let child = rw c.deref-in-Inner.ensures.value at c.child_at-index.ensures.child in
    let index = rw c.deref-in-Inner.ensures.value at c.child_at-index.ensures.index in
    let room = rw c.deref-in-Inner.ensures.value at (c.child_at-index.ensures.room d) in
    record {
      capacity = omega (arith, c.loop-node.invariant.capacity, c.push_reserved.ensures.capacity);
      along = goes_down _ _ _ c.in-Inner.children.items _ _ _ _ _ _ d
          c.loop-node.invariant.along c.requires.few at c.deref-in-Inner-2.ensures.value child index room c.child_at-index.ensures.some
          c.push_reserved.ensures.items (c.deref-node.ensures ∙ ap (λ x. x.node.value) c.index.ensures);
    }
