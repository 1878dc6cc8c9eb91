use Rattle.std.proofs.Common.{arith}
use Rattle.layers.proofs.WalkLemmas.{none_ahead, placed_left, upper_put, lower_put, lower_over, into_own, puts_last}
use Rattle.layers.proofs.walk.Walk.fold.Goals as goal
use Rattle.layers.proofs.walk.Walk.fold.Goals.{in-Some+in-Lower, in_default}
use Rattle.std.proofs.lemmas.Grind.{common_steps}

pub loop-upper-preserved-in-Continue-branch-2 : goal.loop-upper-preserved-in-Continue-branch-2
loop-upper-preserved-in-Continue-branch-2 c = grind (arith, common_steps, c.loop-upper.invariant, c.first.ensures, c.in-Some.is, c.in-Upper.is, c.meet.ensures, c.in_ok-put_upper-in-Upper.ensures.out, c.in_ok-put_upper-in-Upper.ensures.uppers, c.put_upper.ensures.key_cols, c.put_upper.ensures.added, c.put_upper.ensures.gone, upper_put, placed_left)

pub returns-in-Over-clause-folded : goal.returns-in-Over-clause-folded
returns-in-Over-clause-folded c =
    grind (arith, common_steps, c.loop-upper.invariant, c.first.ensures, c.in-Some.is, c.in-Over.is, c.meet.ensures, lower_over)

pub returns-in-Neither-clause-placed : goal.returns-in-Neither-clause-placed
returns-in-Neither-clause-placed c =
    grind (arith, common_steps, c.count.ensures.uppers, c.pass.ensures, c.loop-upper.invariant.placed, placed_left)

pub loop-upper-preserved : goal.loop-upper-preserved
loop-upper-preserved c = grind (arith, common_steps, c.loop-upper.invariant, c.first.ensures, c.in-Some.is, c.in-Into.is, c.meet.ensures, c.in_ok-own-in-Into.ensures, c.pass-in-Into.ensures, into_own, placed_left)

pub returns-clause-folded : goal.returns-clause-folded
returns-clause-folded c = grind (arith, common_steps, c.loop-upper.invariant, c.change-2.ensures, c.count-2.ensures.key_cols, c.count-2.ensures.added, c.count-2.ensures.gone, c.in_ok-push.ensures.items, c.count-2.ensures.out, c.first.ensures, c.count-2.ensures.uppers, lower_put, puts_last, none_ahead)
