use Rattle.std.proofs.Common.{◌+◌, take, ap, ◌∙◌, subst, arith, length-take}
use Rattle.std.specs.Prelude.{◌+ℤ◌}
use Rattle.std.proofs.lemmas.Int.{ints}
use Rattle.model.specs.declared.entry.Entry.{Entry}
use Rattle.counted.specs.declared.search.Target.{Target}
use Rattle.counted.specs.Search.{IsUp}
use Rattle.counted.specs.Sums.{total, weight_of}
use Rattle.counted.proofs.Searches.{near_part, up_more}
use Rattle.counted.proofs.Totals.{total-more}
use Rattle.counted.proofs.search.Target.up_past_entry.Goals as goal

pub overflow_add-result : goal.overflow_add-result
overflow_add-result c =
    let es = c.args.entries.now in
    let i = c.args.at in
    let shift = c.requires.up.0 in
    let is = subst (λ (t : Target). IsUp t c.args.up (total (take i es) +ℤ shift)) c.in-Rid.is c.requires.up.2 in
    let weight = c.weight.ensures ∙ ap (λ (a : Entry). weight_of a.change) c.index-entries-at.is in
    let more = total-more es i c.index-entries-at.result c.weight.result c.requires.within weight in
    let old = near_part (take i es) es shift (omega (arith, length-take i es)) c.requires.up.1 in
    let new = near_part (take (i + 1) es) es shift (omega (arith, length-take (i + 1) es)) c.requires.up.1 in
    omega (arith, ints, old.above, old.below, new.above, new.below)

pub returns-in-Rid : goal.returns-in-Rid
returns-in-Rid c = λ shift h.
    let es = c.args.entries.now in
    let i = c.args.at in
    let first = c.requires.up.0 in
    let is = subst (λ (t : Target). IsUp t c.args.up (total (take i es) +ℤ first)) c.in-Rid.is c.requires.up.2 in
    let weight = c.weight.ensures ∙ ap (λ (a : Entry). weight_of a.change) c.index-entries-at.is in
    let more = total-more es i c.index-entries-at.result c.weight.result c.requires.within weight in
    let old = near_part (take i es) es first (omega (arith, length-take i es)) c.requires.up.1 in
    let new = near_part (take (i + 1) es) es first (omega (arith, length-take (i + 1) es)) c.requires.up.1 in
    up_more c.args.self c.args.up _ c.weight.result _ _ shift more (omega (arith, ints, old.above, old.below, new.above, new.below)) h
