use Rattle.std.proofs.Common.{arith}
use Rattle.counted.proofs.BranchesLemmas.{climb_begun, climbed, popped}
use Rattle.counted.proofs.node.path.Path.grown.Goals as goal

pub loop-branch-init : goal.loop-branch-init
loop-branch-init c = climb_begun c.args.self.branches.items c.args.leaf c.requires.branches c.requires.leaf

pub replaced-requires : goal.replaced-requires
replaced-requires c =
    let up = popped _ _ c.loop-branch.branches.items c.pop.new.self.items c.loop-branch.grown c.in-Some.branch c.in-Some.ensures.items c.requires.few
    c.loop-branch.invariant in
    record { children = up.children; two = up.two; index = up.index; grown = up.grown; few = up.few }

pub grown_inner-requires-clause-some : goal.grown_inner-requires-clause-some
grown_inner-requires-clause-some c =
    let up = popped _ _ c.loop-branch.branches.items c.pop.new.self.items c.loop-branch.grown c.in-Some.branch c.in-Some.ensures.items c.requires.few
    c.loop-branch.invariant in
    omega (arith, up.two, c.in_ok-replaced.ensures.not_fewer)

pub grown_inner-requires-clause-room : goal.grown_inner-requires-clause-room
grown_inner-requires-clause-room c =
    let up = popped _ _ c.loop-branch.branches.items c.pop.new.self.items c.loop-branch.grown c.in-Some.branch c.in-Some.ensures.items c.requires.few
    c.loop-branch.invariant in
    omega (arith, up.children.room, c.in_ok-replaced.ensures.few_more)

pub loop-branch-preserved : goal.loop-branch-preserved
loop-branch-preserved c =
    climbed _ _ c.loop-branch.branches.items c.pop.new.self.items c.loop-branch.grown _ c.in-Some.branch c.in_ok-replaced.field-0.items
    c.in-Some.ensures.items c.loop-branch.invariant c.in_ok-replaced.ensures.items c.in_ok-replaced.ensures.not_fewer
    c.in_ok-replaced.ensures.each c.in_ok-grown.ensures
