use Rattle.std.proofs.Common.{refl, arith}
use Rattle.std.proofs.lemmas.List.{length-append, length-drop, length-take, take_all}
use Rattle.merge.proofs.FillingLemmas.{fills_more, fills_nothing, fills_same, take_more}
use Rattle.merge.proofs.numbers.fill.Goals as goal
use Rattle.std.proofs.lemmas.Grind.{common_steps}

pub loop-done-init : goal.loop-done-init
loop-done-init g c =
    (refl, omega arith, c.requires.lawful, λ ty column. column, fills_nothing c.args.col (g.N.Numbers.left c.args.rows.now))

pub loop-done-preserved : goal.loop-done-preserved
loop-done-preserved g c = grind (arith, common_steps, c.loop-done.invariant, c.fill_next-done.ensures.length, c.fill_next-done.ensures.few, c.fill_next-done.ensures.lawful, c.fill_next-done.ensures.column, c.fill_next-done.ensures.numbers, length-drop, length-take, length-append, fills_same, take_more, fills_more)

pub returns-clause-lawful : goal.returns-clause-lawful
returns-clause-lawful g c = c.loop-done.invariant.2

pub returns-clause-column : goal.returns-clause-column
returns-clause-column g c = c.loop-done.invariant.3

pub returns-clause-numbers : goal.returns-clause-numbers
returns-clause-numbers g c = grind (arith, common_steps, c.loop-done.invariant, c.loop-done-test.false, fills_same, take_all)
