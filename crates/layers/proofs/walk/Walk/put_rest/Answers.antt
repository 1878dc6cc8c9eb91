use Rattle.std.proofs.Common.{[], ◌++◌, List, ap, ◌∙◌, sym, arith}
use Rattle.std.specs.Option.{option_copied}
use Rattle.std.proofs.lemmas.List.{append-nil}
use Rattle.model.specs.declared.entry.Entry.{Entry}
use Rattle.model.specs.Folding.{fold_from}
use Rattle.layers.proofs.WalkLemmas.{none_ahead, placed_left, puts_upper}
use Rattle.layers.proofs.walk.Walk.put_rest.Goals as goal
use Rattle.std.proofs.lemmas.Grind.{common_steps}

pub loop-upper-preserved : goal.loop-upper-preserved
loop-upper-preserved c = grind (arith, common_steps, c.loop-upper.invariant, c.first.ensures, c.in-Some.is, c.put_upper.ensures.added, c.put_upper.ensures.gone, c.in_ok-put_upper.ensures.out, c.in_ok-put_upper.ensures.uppers, puts_upper, placed_left)

pub returns : goal.returns
returns c =
    let old = c.args.self.now in
    let here = c.loop-upper.self in
    let at = sym c.first.ensures ∙ ap option_copied c.in_default.is in
    let none = none_ahead here.uppers at in
    sym (append-nil here.out.items)
    ∙ ap (λ (es : List Entry). here.out.items ++ fold_from old.key_cols [] old.added old.gone es) (sym none)
    ∙ c.loop-upper.invariant.put
