use Rattle.std.proofs.Common.{◌+◌, ◌++◌, length, drop, ap, sym, ◌∙◌, subst, arith}
use Rattle.std.proofs.lemmas.List.{take_rest}
use Rattle.counted.specs.Paths.{Begins}
use Rattle.counted.specs.Shapes.{items_of, all_items}
use Rattle.counted.proofs.Places.{at_inner}
use Rattle.counted.proofs.Paths.{along_rest, begins-front, some_behind}
use Rattle.counted.proofs.node.Node.leaf_from.Goals as goal

pub loop-node-preserved : goal.loop-node-preserved
loop-node-preserved c =
    let at = at_inner c.node.view_is c.node.invariant c.in-Inner.is in
    let cs = c.in-Inner.children.items in
    let i = c.child_of-index.result.0 in
    let d = c.index.result.now in
    let rest = c.child_of-index.result.1 in
    let child = rw c.deref-in-Inner.ensures.value at c.child_of-index.ensures.child in
    let index = rw c.deref-in-Inner.ensures.value at c.child_of-index.ensures.index in
    let holds = rw c.deref-in-Inner.ensures.value at (c.child_of-index.ensures.holds d) in
    let e = ap (λ v. v.items) c.deref-node.ensures ∙ ap items_of c.index.ensures in
    let long = ap length e in
    let others = take_rest c.deref-in-Inner-2.result.now (i + 1) ∙ ap (drop (i + 1)) c.deref-in-Inner-2.ensures.value in
    let here = ap (drop c.loop-node.at) at.items ∙ along_rest cs i d c.loop-node.at rest child index holds in
    let same = here ∙ ap (λ ys. drop rest ys ++ all_items (drop (i + 1) cs)) (sym e)
    ∙ ap (λ ys. drop rest c.deref-node.result.now.items ++ all_items ys) (sym others) in
    let behind = all_items c.loop-node.behind.now in
    let whole = drop c.args.at c.args.self.now.items ++ all_items c.args.behind.now in
    record {
      within = omega arith;
      some = some_behind cs _ i at.each others;
      begins = begins-front _ behind whole (subst (λ xs. Begins (xs ++ behind) whole) same c.loop-node.invariant.begins);
    }
