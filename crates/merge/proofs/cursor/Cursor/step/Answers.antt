use Rattle.std.proofs.Common.{◌≡◌, ◌∙◌, Some, sym, refl, ap, arith}
use Rattle.std.specs.Option.{option_copied}
use Rattle.std.proofs.lemmas.Option.{slice_get_within}
use Rattle.model.specs.Entries.{entry_at}
use Rattle.delta.specs.Lent.{change_of}
use Rattle.merge.proofs.CursorLemmas.{inserts_next, cursor-le}
use Rattle.merge.proofs.StepLemmas.{no_insert, keeps_all, keeps_some}
use Rattle.merge.proofs.cursor.Cursor.step.Goals as goal
use Rattle.std.proofs.lemmas.Grind.{common_steps}

pub returns-in-None-clause-step : goal.returns-in-None-clause-step
returns-in-None-clause-step c = (keeps_all c.args.self.now c.args.most (sym c.next_entry.ensures ∙ ap option_copied c.in-None.is), refl)

pub returns-then-at-sid-clause-step : goal.returns-then-at-sid-clause-step
returns-then-at-sid-clause-step c = grind (arith, common_steps, c.next_entry.ensures, c.in-Some.is, c.if-at-sid.true, c.sid-sid.ensures, c.sid-at.ensures, c.min.ensures, c.requires.is.0, c.requires.is.1, keeps_some)

pub advance-requires-clause-some : goal.advance-requires-clause-some
advance-requires-clause-some c = grind (arith, common_steps, c.next_entry.ensures, c.in-Some.is, slice_get_within)

pub returns-in-Ins-clause-step : goal.returns-in-Ins-clause-step
returns-in-Ins-clause-step c =
    let old = c.args.self.now in
    let x = c.in-Some.entry.now in
    let at = sym c.next_entry.ensures ∙ ap option_copied c.in-Some.is in
    let low = cursor-le old c.requires.is.0 x c.requires.is.1 at in
    let here : x.sid ≡ old.sid = omega (arith, c.if-at-sid.false, c.sid-sid.ensures, c.sid-at.ensures, low) in
    let change = sym c.change.ensures ∙ ap change_of c.in-Ins.is in
    inserts_next old c.in-Ins.row.now c.advance.new.self (at ∙ (λ i. Some (entry_at (here i) (change i)))) c.advance.ensures

pub pass_modifies-requires-clause-next : goal.pass_modifies-requires-clause-next
pass_modifies-requires-clause-next c = grind (arith, common_steps, c.next_entry.ensures, c.in-Some.is, c.requires.is.0, c.requires.is.1, c.if-at-sid.false, c.sid-sid.ensures, c.sid-at.ensures, c.change.ensures, c.in-Del.is, cursor-le, no_insert)
