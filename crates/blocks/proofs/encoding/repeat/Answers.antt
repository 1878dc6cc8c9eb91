use Rattle.std.proofs.Common.{arith}
use Rattle.values.specs.Lent.{value_of}
use Rattle.blocks.proofs.EncodingLemmas.{first_typed}
use Rattle.blocks.proofs.encoding.repeat.Goals as goal
use Rattle.std.proofs.lemmas.Grind.{common_steps}

pub push-requires-clause-typed : goal.push-requires-clause-typed
push-requires-clause-typed c = grind (arith, common_steps, c.get-value.ensures, c.requires.fit, c.loop.invariant.0, first_typed)

pub push-requires-clause-short : goal.push-requires-clause-short
push-requires-clause-short c =
    (first_typed c.args.one.now.ty c.args.one.now.values (value_of c.get-value.result) c.get-value.ensures c.requires.fit).1
