use Rattle.std.proofs.Common.{◌/◌, ◌≤◌, inl, inr, length, sym, ◌∙◌, arith}
use Rattle.layers.proofs.ShiftLemmas.{all_unshifted, le_or_lt, no_shift_past}
use Rattle.layers.proofs.blocks.settle_all.Goals as goal

pub returns : goal.returns
returns c =
    let ss = c.loop-block.shifts in
    let block = c.loop-block.block in
    let inv = c.loop-block.invariant in
    let end : length ss ≤ block = omega (arith, c.loop-block-test.false, c.loop-block.auto.shifts, c.loop-block.auto.block-end) in
    sym (all_unshifted ss c.loop-block.entries (λ j. elim (le_or_lt block (j / 256)) [
      | inl past ↦ no_shift_past ss j (omega (arith, end, past))
      | inr lt ↦ inv.none j lt
    ]))
    ∙ inv.same
