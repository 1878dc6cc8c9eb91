use Rattle.std.proofs.Common.{◌/◌, refl, arith, length-take, length-drop}
use Rattle.std.proofs.lemmas.List.{take-append-drop}
use Rattle.counted.proofs.node.grown.grown_leaf.Goals as goal

pub returns : goal.returns
returns c =
    let n = c.len-2.result / 2 in
    let a = length-take n c.args.entries.items in
    let b = length-drop n c.args.entries.items in
    rw (c.in_ok-right.ensures.items, c.in_ok-right.ensures.tail)
    (refl, refl, omega arith, omega arith, take-append-drop n c.args.entries.items)
