use Rattle.std.proofs.Common.{◌≡◌, ℕ, ◌*◌, ◌+◌, ◌-◌, ◌<◌, ◌≤◌, ◌^◌, ◌++◌, List, length, take, drop, sym, ap, ◌∙◌, subst, arith}
use Rattle.std.specs.List.{All}
use Rattle.model.specs.declared.entry.Entry.{Entry}
use Rattle.layers.specs.declared.shift.Shift.{Shift}
use Rattle.layers.specs.Shifts.{move_between, moved_between, no_shift, shift_at, shifted_by, shifted_entries}
use Rattle.layers.proofs.ShiftLemmas.{IsBlock, added_to, all_moved, block_run, in_order, inside, length-moved, moved-moved, moves_settled}
use Rattle.layers.proofs.ShiftLemmas.{of_block, shift_set, unmoved}
use Rattle.layers.proofs.blocks.move_block.Goals as goal

pub returns-in-Some : goal.returns-in-Some
returns-in-Some c =
    added_to c.args.shifts.now c.args.entries.now c.args.block c.in-Some.both (shifted_by c.args.shift) c.requires.block c.in-Some.ensures

pub move_all-requires : goal.move_all-requires
move_all-requires c =
    let b = c.args.block in
    let s = b * 256 in
    let t = b * 256 + 256 in
    let f = shifted_by c.args.shift in
    let es = c.settle.new.entries in
    let ss = c.settle.new.shifts in
    let start = c.start_of-start in
    let end = c.start_of-end in
    let p = start.result in
    let q = end.result in
    let h : IsBlock b p q (length es) = record {
      within = start.ensures.within;
      below = start.ensures.below;
      there = start.ensures.there;
      end_within = end.ensures.within;
      end_below = end.ensures.below;
      end_there = end.ensures.there;
    } in
    let own = λ (j : ℕ). shifted_by (shift_at ss j) in
    let after = subst (All (λ (e : Entry). e.sid < 2 ^ 64))
    (ap (moved_between s t f) (sym c.settle.ensures.same) ∙ moved-moved (move_between s t f) own 0 es) c.requires.after in
    all_moved (λ (e : Entry). e.sid < 2 ^ 64) (λ j e. move_between s t f j (own j e)) f 0 p (q - p) es
    (λ j e low high lt.
    let from : p ≤ j = omega (arith, low) in
    let to : j < q = omega (arith, high, in_order b p q (length es) h) in
    let less : j < length es = omega (arith, lt) in
    let is = of_block b p q (length es) h j less from to in
    let none = ap (λ (zs : List Shift). shift_at zs j) c.settle.ensures.shifts
    ∙ shift_set c.args.shifts.now b j no_shift c.requires.block is in
    inside s t f j (own j e) (omega (arith, is)) (omega (arith, is))
    ∙ ap (λ (z : Shift). f (shifted_by z e)) none
    ∙ ap f (unmoved e)) after

pub returns : goal.returns
returns c =
    let b = c.args.block in
    let f = shifted_by c.args.shift in
    let es = c.settle.new.entries in
    let ss = c.settle.new.shifts in
    let before = shifted_entries c.args.shifts.now c.args.entries.now in
    let start = c.start_of-start in
    let end = c.start_of-end in
    let p = start.result in
    let q = end.result in
    let m = q - p in
    let h : IsBlock b p q (length es) = record {
      within = start.ensures.within;
      below = start.ensures.below;
      there = start.ensures.there;
      end_within = end.ensures.within;
      end_below = end.ensures.below;
      end_there = end.ensures.there;
    } in
    let size : length es ≡ length before =
    sym (length-moved (λ (j : ℕ). shifted_by (shift_at ss j)) 0 es) ∙ ap length c.settle.ensures.same in
    let none = λ (j : ℕ) (low : p ≤ j) (high : j < q) (lt : j < length es).
    ap (λ (zs : List Shift). shift_at zs j) c.settle.ensures.shifts
    ∙ shift_set c.args.shifts.now b j no_shift c.requires.block (of_block b p q (length es) h j lt low high) in
    ap (λ (zs : List Entry). shifted_entries ss (take p es ++ (zs ++ drop m (drop p es)))) c.move_all.ensures
    ∙ moves_settled ss es p m q f (omega (arith, in_order b p q (length es) h)) none
    ∙ ap (moved_between p q f) c.settle.ensures.same
    ∙ block_run b p q f before (subst (IsBlock b p q) size h)
