use Rattle.std.proofs.Common.{arith}
use Rattle.blocks.specs.Payload.{AreBytes}
use Rattle.devices.proofs.GrammarLemmas.{answered_in_turn}
use Rattle.devices.proofs.reading.read_in_turn.Goals as goal

pub returns-clause-turn : goal.returns-clause-turn
returns-clause-turn c =
    let small : AreBytes c.args.bytes.now = λ i. omega (arith, c.type_inv.bytes i) in
    answered_in_turn c.what_reads_is_a_column.ensures c.args.col c.args.ty c.args.bytes.now c.read_column.result small c.read_column.ensures
