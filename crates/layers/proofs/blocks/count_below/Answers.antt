use Rattle.std.proofs.Common.{ℕ, ◌+◌, ◌-◌, ◌/◌, ◌<◌, length, arith}
use Rattle.std.specs.Prelude.{slice_index_or}
use Rattle.std.proofs.lemmas.Option.{slice_get-get_or}
use Rattle.layers.specs.Shifts.{shift_at, shifted_by, shifted_entries}
use Rattle.layers.proofs.ShiftLemmas.{all_lower, length-moved, sids_ascend}
use Rattle.layers.proofs.blocks.count_below.Goals as goal

pub loop-low-preserved-then-sid_at-sid : goal.loop-low-preserved-then-sid_at-sid
loop-low-preserved-then-sid_at-sid c =
    let es = c.args.entries.now in
    let ss = c.args.shifts.now in
    let low = c.loop-low.low in
    let high = c.loop-low.high in
    let inv = c.loop-low.invariant in
    let mid = low + (high - low) / 2 in
    let all = shifted_entries ss es in
    let size = length-moved (λ (j : ℕ). shifted_by (shift_at ss j)) 0 es in
    let lt : mid < high = omega (arith, c.loop-low-test.true) in
    let within : mid < length all = omega (arith, lt, inv.within, size) in
    record {
      order = omega (arith, lt);
      within = inv.within;
      below = λ key_cols ordered. all_lower c.args.sid (mid + 1) all (λ k d less there.
          let before = sids_ascend key_cols all ordered k mid d (omega (arith, less)) within in
          let is = c.sid_at.ensures (slice_index_or all mid d) (slice_get-get_or all mid d within) in
          omega (arith, before, is, c.if-sid_at-sid.true));
    }
