use Rattle.std.proofs.Common.{◌≡◌, ◌+◌, ◌++◌, ◌≤◌, Bool, List, length, take, drop, ap, subst, ◌∙◌, arith}
use Rattle.blocks.specs.Payload.{all_bits, byte_count, packed, IsPacked}
use Rattle.values.specs.declared.limits.TheConstants.{MAX_BLOCK_VALUES}
use Rattle.blocks.proofs.BitsLemmas.{length-truths, packed-truths}
use Rattle.blocks.proofs.PushLemmas.{are_packed, longer_IsPacked, longer_truths}
use Rattle.blocks.proofs.RunLemmas.{length-run}
use Rattle.blocks.proofs.bits.Bits.push_run.Goals.{In_ok-add_run}
use Rattle.blocks.proofs.bits.Bits.push_run.Goals as goal
use Rattle.std.proofs.lemmas.Grind.{common_steps}

pub add_run-requires : goal.add_run-requires
add_run-requires c =
    grind (arith, common_steps, c.requires.few, c.self.invariant.whole, c.self.invariant, c.requires.within, length-truths, are_packed)

-- the run has as many truths as were asked for
long : (c : In_ok-add_run) → length (take c.args.count (drop c.args.start c.args.others.now)) ≡ c.args.count
long c = length-run c.args.others.now c.args.start c.args.count c.requires.within

-- the bytes are those of the truths with the run
spelt : (c : In_ok-add_run) →
    let run = take c.args.count (drop c.args.start c.args.others.now) in
    c.add_run.new.bytes.items
    ≡ packed (byte_count (c.self.inside.count + length run)) (take c.self.inside.count (all_bits c.self.inside.bytes.items) ++ run)
spelt c = grind (arith, common_steps, c.self.invariant, c.in_ok-add_run.ensures.ok, long, length-truths, packed-truths)

pub invariant_of-self-2 : goal.invariant_of-self-2
invariant_of-self-2 c =
    let inside = c.self.inside in
    let run = take c.args.count (drop c.args.start c.args.others.now) in
    let fits : inside.count + length run ≤ MAX_BLOCK_VALUES =
    omega (
      arith,
      c.requires.few,
      long c,
      ap length c.self.view_is,
      length-truths inside.count inside.bytes.items c.self.invariant.whole,
    ) in
    subst (λ n. IsPacked (inside.count + n) c.add_run.new.bytes.items) (long c)
    (longer_IsPacked inside.count inside.bytes.items c.self.invariant run c.add_run.new.bytes.items (spelt c) fits)

pub returns-clause-ok : goal.returns-clause-ok
returns-clause-ok c =
    let inside = c.self.inside in
    let run = take c.args.count (drop c.args.start c.args.others.now) in
    subst
    (λ n. take (inside.count + n) (all_bits c.add_run.new.bytes.items) ≡ take inside.count (all_bits inside.bytes.items) ++ run)
    (long c) (longer_truths inside.count inside.bytes.items c.self.invariant run c.add_run.new.bytes.items (spelt c))
    ∙ ap (λ (bs : List Bool). bs ++ run) c.self.view_is
