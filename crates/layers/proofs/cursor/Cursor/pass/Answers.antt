use Rattle.delta.specs.Lent.{change_of}
use Rattle.std.proofs.Common.{ap, ◌∙◌, sym, arith}
use Rattle.delta.proofs.CallerLemmas.{insert_worth, delete_worth}
use Rattle.layers.proofs.PassLemmas.{counts_fit, next_cursor}
use Rattle.layers.proofs.cursor.Cursor.pass.Goals as goal

pub overflow_add-self-in-Ins : goal.overflow_add-self-in-Ins
overflow_add-self-in-Ins c = omega (arith, c.requires.cursor, counts_fit)

pub overflow_add-self-in-Del : goal.overflow_add-self-in-Del
overflow_add-self-in-Del c = omega (arith, c.requires.cursor, counts_fit)

pub returns-in-Ins-clause-cursor : goal.returns-in-Ins-clause-cursor
returns-in-Ins-clause-cursor c =
    let here = c.args.self.now in
    let change = sym c.change.ensures ∙ ap change_of c.in-Ins.is in
    next_cursor here c.requires.cursor c.args.there.now c.requires.at
    c.pass.new.self _ _ c.pass.ensures (omega (arith, ap insert_worth change)) (omega (arith, ap delete_worth change))

pub returns-in-Del-clause-cursor : goal.returns-in-Del-clause-cursor
returns-in-Del-clause-cursor c =
    let here = c.args.self.now in
    let change = sym c.change.ensures ∙ ap change_of c.in-Del.is in
    next_cursor here c.requires.cursor c.args.there.now c.requires.at
    c.pass.new.self _ _ c.pass.ensures (omega (arith, ap insert_worth change)) (omega (arith, ap delete_worth change))

pub returns-in-Mod-clause-cursor : goal.returns-in-Mod-clause-cursor
returns-in-Mod-clause-cursor c =
    let here = c.args.self.now in
    let change = sym c.change.ensures ∙ ap change_of c.in-Mod.is in
    next_cursor here c.requires.cursor c.args.there.now c.requires.at
    c.pass.new.self _ _ c.pass.ensures (omega (arith, ap insert_worth change)) (omega (arith, ap delete_worth change))
