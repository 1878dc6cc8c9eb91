use Rattle.std.proofs.Common.{arith}
use Rattle.blocks.specs.Payload.{AreBytes}
use Rattle.blocks.proofs.EncodingLemmas.{found_is, only_is}
use Rattle.blocks.proofs.encoding.read_block2.Goals as goal

pub returns-clause-found : goal.returns-clause-found
returns-clause-found c =
    let small : AreBytes c.args.bytes.now = λ i. omega (arith, c.type_inv.bytes i) in
    found_is c.args.ty c.args.count c.args.bytes.now c.decode.result small c.decode.ensures.ty c.decode.ensures.first

pub returns-clause-only : goal.returns-clause-only
returns-clause-only c = only_is c.args.ty c.args.count c.args.bytes.now c.decode.result c.decode.ensures.first
