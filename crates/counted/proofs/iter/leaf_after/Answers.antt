use Rattle.std.proofs.Common.{ap}
use Rattle.counted.proofs.Paths.{leaf_at, from_behind, begins-within}
use Rattle.counted.proofs.iter.leaf_after.Goals as goal

pub returns-in-Some-clause-rest : goal.returns-in-Some-clause-rest
returns-in-Some-clause-rest c =
    let is = c.in-Some.ensures.cases.0 in
    let same = ap (λ v. v.items) c.deref.ensures in
    leaf_at c.args.tree.now.entries c.leaf_from.result.0.now c.leaf_from.result.1.now c.args.from
    (begins-within c.args.tree.now.entries _ c.deref.result.now.items c.args.behind.now c.in-Some.others.now c.in-Some.child.now
    c.args.from c.requires.at_hand is same c.leaf_from.ensures.rest)

pub returns-in-Some-clause-at_hand : goal.returns-in-Some-clause-at_hand
returns-in-Some-clause-at_hand c =
    let is = c.in-Some.ensures.cases.0 in
    let same = ap (λ v. v.items) c.deref.ensures in
    from_behind c.args.tree.now.entries c.leaf_from.result.0.now c.leaf_from.result.1.now c.args.from c.leaf_from.ensures.children
    (begins-within c.args.tree.now.entries _ c.deref.result.now.items c.args.behind.now c.in-Some.others.now c.in-Some.child.now
    c.args.from c.requires.at_hand is same c.leaf_from.ensures.rest)
