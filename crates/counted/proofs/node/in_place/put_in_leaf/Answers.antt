use Rattle.std.proofs.Common.{refl, ◌≡◌, ap, sym, ◌∙◌, arith}
use Rattle.std.specs.List.{insert}
use Rattle.std.proofs.lemmas.Int.{ints}
use Rattle.model.specs.declared.entry.Entry.{Entry}
use Rattle.counted.specs.Sums.{weight_of}
use Rattle.counted.proofs.InPlace.{put_over, put_between, edit_same}
use Rattle.counted.proofs.Totals.{weight_within}
use Rattle.counted.proofs.node.in_place.put_in_leaf.Goals as goal

pub returns-then-gone-eq1-clause-ok : goal.returns-then-gone-eq1-clause-ok
returns-then-gone-eq1-clause-ok c =
    let one : c.args.gone ≡ 1 = omega arith in
    let at = ap (λ (e : Entry). weight_of e.change) c.index.ensures in
    let new = weight_within c.args.put.change in
    let old = weight_within c.index.result.now.change in
    let items = c.args.entries.now.items in
    edit_same _ _ _ _ _ _ _ _ _ _ (sym one) refl refl (omega (arith, ints))
    (put_over items c.args.at c.args.put c.index.result.now (omega arith))

pub returns-in-Ok-clause-ok : goal.returns-in-Ok-clause-ok
returns-in-Ok-clause-ok c =
    let none : c.args.gone ≡ 0 = omega arith in
    let new = weight_within c.args.put.change in
    let items = c.args.entries.now.items in
    let is = c.in-Ok.ensures.items in
    edit_same _ _ _ _ _ _ _ _ _ _ (sym none) refl (is
    ∙ ap (λ xs. insert xs c.args.at c.args.put) c.reserve_exact.ensures.items) (omega (arith, ints))
    (put_between items c.args.at c.args.put)

pub returns-in-Ok-clause-room : goal.returns-in-Ok-clause-room
returns-in-Ok-clause-room c = omega (arith, c.in-Ok.ensures.len)
