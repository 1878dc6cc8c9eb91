use Rattle.std.proofs.Common.{◌≡◌, ℕ, List, [], ◌∷◌, drop, refl, cond, ap, sym, ◌∙◌}
use Rattle.model.specs.declared.entry.Entry.{Entry}
use Rattle.std.specs.Prelude.{Some, slice_get}
use Rattle.std.specs.Option.{option_copied}
use Rattle.delta.specs.Changes.{is_modify_at, modify_count}
use Rattle.delta.proofs.LookupLemmas.{head_of, head_at, head_none}
use Rattle.delta.proofs.CountedLemmas.{some_get, some_within, none_within}
use Rattle.delta.proofs.changes.modify_worth.Goals as goal

by_head : (sid col : ℕ) (es : List Entry) → head_of (λ e. cond (is_modify_at sid col e) 1 0) 0 es ≡ modify_count sid col es
by_head sid col [] = refl
by_head sid col (e ∷ es) = refl

pub returns-in-Some : goal.returns-in-Some
returns-in-Some c = λ es n is.
    let x = c.in-Some.found.now in
    let at : Some x ≡ slice_get es n = sym (ap option_copied c.in-Some.is) ∙ is in
    c.worth_of.ensures
    ∙ head_at (λ e. cond (is_modify_at c.args.sid c.args.col e) 1 0) 0 es es n x refl (some_within es n x at) (some_get es n x x at)
    ∙ by_head c.args.sid c.args.col (drop n es)

pub returns-in-None : goal.returns-in-None
returns-in-None c = λ es n is.
    head_none (λ e. cond (is_modify_at c.args.sid c.args.col e) 1 0) 0 es es n refl
    (none_within es n (sym is ∙ ap option_copied c.in-None.is))
    ∙ by_head c.args.sid c.args.col (drop n es)
