use Rattle.std.proofs.Common.{◌≤◌, map, subst, sym, arith}
use Rattle.std.proofs.lemmas.List.{length-map}
use Rattle.values.specs.declared.limits.TheConstants.{MAX_BLOCK_VALUES}
use Rattle.blocks.specs.Payload.{is_true, byte_count, packed, IsPacked}
use Rattle.blocks.proofs.BitsLemmas.{packed-IsPacked, truths-packed}
use Rattle.blocks.proofs.bits.Bits.from_values.Goals as goal
use Rattle.std.proofs.lemmas.Grind.{common_steps}

pub invariant_of-result : goal.invariant_of-result
invariant_of-result c =
    let truths = map is_true c.args.values.now in
    let counted = length-map c.args.values.now is_true in
    rw c.in_ok-bytes.ensures (subst (λ n. IsPacked n (packed (byte_count n) truths)) counted
    (packed-IsPacked truths (subst (λ n. n ≤ MAX_BLOCK_VALUES) (sym counted) c.requires)))

pub returns : goal.returns
returns c = grind (arith, common_steps, c.in_ok-bytes.ensures, length-map, truths-packed)
