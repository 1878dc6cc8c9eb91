use Rattle.std.proofs.Common.{◌∙◌, arith}
use Rattle.std.proofs.lemmas.Int.{ints}
use Rattle.counted.proofs.Totals.{shift_within, total-first}
use Rattle.counted.proofs.tree.CountedTree.shift_before.Goals as goal

pub returns-clause-shift : goal.returns-clause-shift
returns-clause-shift g c =
    let entries = c.args.self.now.entries in
    let e = c.place_of.ensures.at.sum
    ∙ total-first c.args.sid entries c.place_of.result.index c.requires.ordered c.place_of.ensures.place in
    let w = shift_within c.args.sid entries in
    omega (arith, ints, e, w.above, w.below, c.place_of.ensures.few)
