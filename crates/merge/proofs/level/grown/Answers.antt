use Rattle.std.proofs.Common.{arith}
use Rattle.std.proofs.lemmas.Int.{ints}
use Rattle.delta.proofs.CallerLemmas.{counts-le}
use Rattle.merge.proofs.level.grown.Goals as goal

pub overflow_add-result : goal.overflow_add-result
overflow_add-result c =
    omega (arith, ints, c.requires.few, c.total.ensures.total, counts-le c.args.tree.now.entries, c.total.ensures.lawful.counted)

pub overflow_cast-result-2 : goal.overflow_cast-result-2
overflow_cast-result-2 c =
    omega (arith, c.requires.few, c.requires.enough, c.total.ensures.total, c.total.ensures.lawful.counted, ints, counts-le)

pub returns-clause-sum : goal.returns-clause-sum
returns-clause-sum c =
    omega (arith, c.requires.few, c.requires.enough, c.total.ensures.total, c.total.ensures.lawful.counted, ints, counts-le)

pub returns-clause-most : goal.returns-clause-most
returns-clause-most c =
    omega (arith, c.requires.few, c.requires.enough, c.total.ensures.total, c.total.ensures.lawful.counted, ints, counts-le)
