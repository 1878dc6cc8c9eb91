use Rattle.std.proofs.Common.{arith}
use Rattle.std.proofs.lemmas.Int.{ints}
use Rattle.blocks.proofs.BitsLemmas.{length-packed}
use Rattle.blocks.proofs.PushLemmas.{more_in_new, more_in_last, last_there, last_fits}
use Rattle.blocks.proofs.bits.add_bit.Goals as goal
use Rattle.std.proofs.lemmas.Grind.{common_steps}

pub index_mut-requires : goal.index_mut-requires
index_mut-requires c = grind (arith, common_steps, c.requires.packed, c.bit_in-bit.ensures, c.if-count-eq0.false, last_there)

pub overflow_add-index_mut : goal.overflow_add-index_mut
overflow_add-index_mut c =
    grind (arith, common_steps, c.requires.packed, c.bit_in-bit.ensures, c.if-count-eq0.false, c.index_mut.ensures.value, last_fits, ints)

pub returns-in_ok-push-clause-ok : goal.returns-in_ok-push-clause-ok
returns-in_ok-push-clause-ok c =
    grind (arith, common_steps, c.in_ok-push.ensures.items, c.bit_in-bit.ensures, c.if-count-eq0.true, more_in_new)

pub returns-else-count-eq0-clause-ok : goal.returns-else-count-eq0-clause-ok
returns-else-count-eq0-clause-ok c =
    λ bs is packs. more_in_last c.args.count bs is c.args.bytes.now.items packs c.args.truth c.bit_in-bit.result c.bit_in-bit.ensures
    c.if-count-eq0.false c.index_mut.result.now c.index_mut.ensures.value

pub returns-in_err-push-clause-succeeds : goal.returns-in_err-push-clause-succeeds
returns-in_err-push-clause-succeeds c = grind (arith, common_steps, c.requires.packed, c.if-count-eq0.true, c.in_err-push.ensures.full, c.in_err-push.ensures.len, length-packed)
