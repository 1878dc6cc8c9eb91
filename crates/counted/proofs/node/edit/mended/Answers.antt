use Rattle.std.proofs.Common.{◌-◌, ◌<◌, length, ap, arith, length-append}
use Rattle.counted.proofs.Places.{child_few, grown_length}
use Rattle.counted.proofs.node.edit.mended.Goals as goal

pub with_grown-requires-clause-few : goal.with_grown-requires-clause-few
with_grown-requires-clause-few c =
    let all = grown_length _ _ _ _ c.in_ok-joined.ensures in
    let both = length-append c.deref.result.now.items c.args.node.items in
    let lt : c.args.index - 1 < length c.args.children.now = omega (arith, c.requires.index) in
    let few = child_few c.args.children.now (c.args.index - 1) c.index-children-index.result lt in
    let e = ap (λ v. length v.items) c.deref.ensures in
    omega (arith, c.requires.few)
