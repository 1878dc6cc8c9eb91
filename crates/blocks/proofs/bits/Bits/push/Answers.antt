use Rattle.std.proofs.Common.{◌≡◌, ◌+◌, ◌++◌, ◌∷◌, [], Bool, List, length, take, ap, ◌∙◌, arith}
use Rattle.blocks.specs.Payload.{all_bits, byte_count, packed}
use Rattle.blocks.proofs.BitsLemmas.{length-truths, packed-truths}
use Rattle.blocks.proofs.PushLemmas.{are_packed, longer_IsPacked, longer_truths}
use Rattle.blocks.proofs.bits.Bits.push.Goals.{In_ok-add_bit}
use Rattle.blocks.proofs.bits.Bits.push.Goals as goal
use Rattle.std.proofs.lemmas.Grind.{common_steps}

pub add_bit-requires : goal.add_bit-requires
add_bit-requires c = grind (arith, common_steps, c.requires.few, c.self.invariant.whole, c.self.invariant, length-truths, are_packed)

-- the bytes are those of the truths with the one more
spelt : (c : In_ok-add_bit) → c.add_bit.new.bytes.items
    ≡ packed (byte_count (c.self.inside.count + 1)) (take c.self.inside.count (all_bits c.self.inside.bytes.items) ++ c.args.truth ∷ [])
spelt c = grind (arith, common_steps, c.self.invariant, c.in_ok-add_bit.ensures.ok, length-truths, packed-truths)

pub invariant_of-self-2 : goal.invariant_of-self-2
invariant_of-self-2 c =
    let inside = c.self.inside in
    longer_IsPacked inside.count inside.bytes.items c.self.invariant (c.args.truth ∷ []) c.add_bit.new.bytes.items (spelt c)
    (omega (arith, c.requires.few, ap length c.self.view_is, length-truths inside.count inside.bytes.items c.self.invariant.whole))

pub returns-clause-ok : goal.returns-clause-ok
returns-clause-ok c =
    let inside = c.self.inside in
    longer_truths inside.count inside.bytes.items c.self.invariant (c.args.truth ∷ []) c.add_bit.new.bytes.items (spelt c)
    ∙ ap (λ (bs : List Bool). bs ++ c.args.truth ∷ []) c.self.view_is
