use Rattle.std.proofs.Common.{◌≡◌, refl, ap, sym, arith}
use Rattle.std.proofs.lemmas.Int.{ints}
use Rattle.model.specs.declared.entry.Entry.{Entry}
use Rattle.counted.specs.Sums.{weight_of}
use Rattle.counted.proofs.InPlace.{taken, edit_same}
use Rattle.counted.proofs.Totals.{weight_within}
use Rattle.counted.proofs.node.in_place.take_from_leaf.Goals as goal

pub returns-clause-ok : goal.returns-clause-ok
returns-clause-ok c =
    let one : c.args.gone ≡ 1 = omega arith in
    let d = c.remove-taken.result in
    let at = ap (λ (e : Entry). weight_of e.change) c.remove-taken.ensures.value in
    let w = weight_within d.change in
    let items = c.args.entries.now.items in
    edit_same _ _ _ _ _ _ _ _ _ _ (sym one) refl c.remove-taken.ensures.by_index.2 (omega (arith, ints))
    (taken items c.args.at d (omega arith))
