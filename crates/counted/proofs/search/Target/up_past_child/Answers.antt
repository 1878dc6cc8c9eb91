use Rattle.std.proofs.Common.{◌+◌, take, ap, subst, arith}
use Rattle.std.specs.Prelude.{◌+ℤ◌}
use Rattle.std.proofs.lemmas.Int.{ints}
use Rattle.counted.specs.declared.node.Child.{Child}
use Rattle.counted.specs.declared.search.Target.{Target}
use Rattle.counted.specs.Search.{IsUp}
use Rattle.counted.specs.Shapes.{all_items}
use Rattle.counted.specs.Sums.{total}
use Rattle.counted.proofs.Places.{count_within, total_items-more}
use Rattle.counted.proofs.Searches.{near_part, up_more}
use Rattle.counted.proofs.search.Target.up_past_child.Goals as goal

pub overflow_add-result : goal.overflow_add-result
overflow_add-result c =
    let cs = c.args.children.now in
    let i = c.args.at in
    let shift = c.requires.up.0 in
    let is = subst (λ (t : Target). IsUp t c.args.up (total (all_items (take i cs)) +ℤ shift)) c.in-Rid.is c.requires.up.2 in
    let more = total_items-more cs i c.index-children-at.result c.requires.children c.requires.within in
    let same = ap (λ (x : Child). x.net) c.index-children-at.is in
    let old = near_part (all_items (take i cs)) (all_items cs) shift (count_within cs i) c.requires.up.1 in
    let new = near_part (all_items (take (i + 1) cs)) (all_items cs) shift (count_within cs (i + 1)) c.requires.up.1 in
    omega (arith, ints, old.above, old.below, new.above, new.below)

pub returns-in-Rid : goal.returns-in-Rid
returns-in-Rid c = λ shift h.
    let cs = c.args.children.now in
    let i = c.args.at in
    let first = c.requires.up.0 in
    let is = subst (λ (t : Target). IsUp t c.args.up (total (all_items (take i cs)) +ℤ first)) c.in-Rid.is c.requires.up.2 in
    let more = total_items-more cs i c.index-children-at.result c.requires.children c.requires.within in
    let same = ap (λ (x : Child). x.net) c.index-children-at.is in
    let old = near_part (all_items (take i cs)) (all_items cs) first (count_within cs i) c.requires.up.1 in
    let new = near_part (all_items (take (i + 1) cs)) (all_items cs) first (count_within cs (i + 1)) c.requires.up.1 in
    up_more c.args.self c.args.up _ _ _ _ shift more (omega (arith, ints, old.above, old.below, new.above, new.below)) h
