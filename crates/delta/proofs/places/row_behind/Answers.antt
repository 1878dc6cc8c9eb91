use Rattle.std.proofs.Common.{take, ◌∙◌, arith, length-take}
use Rattle.std.proofs.lemmas.Int.{ints}
use Rattle.delta.proofs.CountLemmas.{counts-le}
use Rattle.delta.proofs.CountedLemmas.{total-is}
use Rattle.delta.proofs.places.row_behind.Goals as goal

pub moved-requires : goal.moved-requires
moved-requires c =
    let n = c.args.index in
    let es = c.args.tree.now.entries in
    let sum = c.requires.shift ∙ total-is (take n es) in
    let some = counts-le (take n es) in
    record {
      small = c.requires.sid;
      above = omega (arith, ints, length-take n es, c.requires.lawful.counted, c.requires.sid, c.requires.few);
      below = omega (arith, ints, length-take n es, c.requires.lawful.counted, c.requires.sid, c.requires.few);
      within = omega (arith, ints, length-take n es, c.requires.lawful.counted, c.requires.sid, c.requires.few);
    }

pub returns : goal.returns
returns c =
    let n = c.args.index in
    let es = c.args.tree.now.entries in
    let sum = c.requires.shift ∙ total-is (take n es) in
    let some = counts-le (take n es) in
    let to = c.moved.ensures in
    omega (arith, ints, length-take n es, c.requires.lawful.counted, c.requires.sid, c.requires.few)
