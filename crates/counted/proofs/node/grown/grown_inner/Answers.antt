use Rattle.std.proofs.Common.{◌+◌, ◌<◌, ◌≤◌, ◌/◌, length, take, drop, sym, subst, arith, length-take, length-drop}
use Rattle.std.proofs.lemmas.List.Elements.{All-take, All-drop}
use Rattle.counted.specs.declared.node.TheConstants.{MAX_WIDTH}
use Rattle.counted.specs.Shapes.{IsChild, AreChildren, depth_of}
use Rattle.counted.proofs.Places.{are_children_after, depth_all, split_items}
use Rattle.counted.proofs.node.grown.grown_inner.Goals as goal

pub invariant_of-result-3 : goal.invariant_of-result-3
invariant_of-result-3 c =
    let n = c.len-2.result / 2 in
    let long : length c.args.children.items ≤ n + MAX_WIDTH = omega arith in
    let lt : n < length c.args.children.items = omega arith in
    subst AreChildren (sym c.in_ok-right.ensures.tail) (are_children_after c.args.children.items n c.requires.each long lt)

pub returns : goal.returns
returns c =
    let n = c.len-2.result / 2 in
    let depth = depth_of c.args.children.items in
    let left = All-take (IsChild depth) n c.args.children.items c.requires.each in
    let right = All-drop (IsChild depth) n c.args.children.items c.requires.each in
    let a = length-take n c.args.children.items in
    let b = length-drop n c.args.children.items in
    let le = depth_all depth (take n c.args.children.items) left (omega arith) in
    let ri = depth_all depth (drop n c.args.children.items) right (omega arith) in
    rw (c.in_ok-right.ensures.items, c.in_ok-right.ensures.tail)
    (omega arith, omega arith, omega arith, omega arith, sym (split_items n c.args.children.items))
