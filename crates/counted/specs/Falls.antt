-- Each child has one level less.
use Rattle.std.specs.Prelude.{ℕ, suc, ◌≤◌, max, List, [], ◌∷◌}
use Rattle.std.specs.List.{All}
use Rattle.std.proofs.Common.{arith}
use Rattle.std.proofs.lemmas.List.Elements.{All-head, All-tail}
use denote.Param.Weighed.{most}
use Rattle.counted.specs.declared.node.Body.{Body}
use Rattle.counted.specs.declared.node.Body.TheVariants.{Leaf, Inner}
use Rattle.counted.specs.declared.node.Child.{Child}
use Rattle.counted.specs.declared.node.Node.TheDeep.{deep-Body, deep-Child}
use Rattle.counted.specs.Shapes.{view_of, depth_of, IsChild, IsBalanced}

pub most_le : (depth : ℕ) (children : List Child) → All (IsChild depth) children → most deep-Child children ≤ suc depth
most_le depth [] h = omega arith
most_le depth (c ∷ children) h =
    let here = All-head (IsChild depth) c children h in
    let rest = most_le depth children (All-tail (IsChild depth) c children h) in
    omega (arith, here.level)

pub children_are_less : (b : Body) → IsBalanced b → max (deep-Body b) 0 ≤ (view_of b).depth
children_are_less (Leaf entries) h = omega arith
children_are_less (Inner children) h = omega (arith, most_le (depth_of children.items) children.items h.each)
