use Rattle.std.proofs.Common.{◌<◌, ap, ◌∙◌, arith, length}
use Rattle.counted.specs.Shapes.{depth_of}
use Rattle.counted.proofs.Places.{at_inner, child_few, below_power, levels_law}
use Rattle.counted.proofs.node.Node.+depth.Goals as goal

pub overflow_add-result : goal.overflow_add-result
overflow_add-result t c =
    let at = at_inner c.self.view_is c.self.invariant c.in-Inner.is in
    let some : 0 < length c.in-Inner.children.items = omega (arith, at.each.some) in
    let is = at.each.each 0 c.index.result.now some in
    let deep = c.depth.ensures.depth ∙ ap (λ v. v.depth) c.deref.ensures ∙ ap (λ x. x.node.value.depth) c.index.ensures ∙ is.level in
    let many = is.many in
    let small = below_power (depth_of c.in-Inner.children.items) in
    let few = child_few c.in-Inner.children.items 0 c.index.result.now some in
    let all = ap length at.items in
    omega (arith, c.requires)

pub returns-in-Inner-clause-levels : goal.returns-in-Inner-clause-levels
returns-in-Inner-clause-levels t c = levels_law c.self.inside.body c.args.self.now c.self.view_is c.self.invariant
