use Rattle.std.proofs.Common.{◌≡◌, ℕ, ◌*◌, ◌+◌, ◌-◌, ◌<◌, ◌≤◌, ◌^◌, List, length}
use Rattle.std.proofs.Common.{sym, ap, ◌∙◌, subst, arith}
use Rattle.std.specs.List.{All}
use Rattle.model.specs.declared.entry.Entry.{Entry}
use Rattle.layers.specs.declared.shift.Shift.{Shift}
use Rattle.layers.specs.Shifts.{move_between, moved_between, shift_at, shifted_by, shifted_entries}
use Rattle.layers.proofs.ShiftLemmas.{all_between, all_moved, inside, le_or_lt, length-moved, moved-moved, moves_settled, own_block}
use Rattle.layers.proofs.ShiftLemmas.{run_ends, runs_end}
use Rattle.layers.proofs.ShiftLemmas.{runs_join, stay_between, unmoved}
use Rattle.layers.proofs.blocks.move_rest.Goals as goal
use Rattle.std.proofs.lemmas.Grind.{common_steps}

pub returns-then-is_none : goal.returns-then-is_none
returns-then-is_none c = grind (arith, common_steps, c.is_none.ensures, c.if-is_none.true, stay_between)

pub move_all-requires : goal.move_all-requires
move_all-requires c =
    let n = c.args.index in
    let f = shifted_by c.args.shift in
    let es = c.settle.new.entries in
    let ss = c.settle.new.shifts in
    let before = shifted_entries c.args.shifts.now c.args.entries.now in
    let end = c.start_of-end in
    let own = λ (j : ℕ). shifted_by (shift_at ss j) in
    let len = length c.args.entries.now in
    let own_size : length es ≡ len =
    sym (length-moved own 0 es) ∙ ap length c.settle.ensures.same
    ∙ length-moved (λ (j : ℕ). shifted_by (shift_at c.args.shifts.now j)) 0 c.args.entries.now in
    let small = all_between n len c.args.shift before c.requires.few c.requires.before c.requires.placed in
    let after = subst (All (λ (e : Entry). e.sid < 2 ^ 64))
    (ap (moved_between n len f) (sym c.settle.ensures.same) ∙ moved-moved (move_between n len f) own 0 es) small in
    all_moved (λ (e : Entry). e.sid < 2 ^ 64) (λ j e. move_between n len f j (own j e)) f 0 n (end.result - n) es
    (λ j e low high lt.
    let from : n ≤ j = omega (arith, low) in
    let to : j < end.result = omega (arith, high, low) in
    let short : j < len = omega (arith, lt, own_size) in
    let none = ap (λ (zs : List Shift). shift_at zs j) c.settle.ensures.shifts
    ∙ own_block c.args.shifts.now n end.result len c.requires.index c.requires.covered end.ensures.below j from to in
    inside n len f j (own j e) from short ∙ ap (λ (z : Shift). f (shifted_by z e)) none ∙ ap f (unmoved e)) after

pub loop-block-init : goal.loop-block-init
loop-block-init c = grind (arith, common_steps, c.settle.ensures.same, c.requires.index, c.settle.ensures.shifts, c.requires.covered, c.move_all.ensures, length-moved, le_or_lt, own_block, moves_settled, run_ends)

pub move_block-requires-clause-before : goal.move_block-requires-clause-before
move_block-requires-clause-before c =
    grind (arith, common_steps, c.loop-block.invariant.moved, c.requires.few, c.requires.before, c.requires.placed, all_between)

pub move_block-requires-clause-after : goal.move_block-requires-clause-after
move_block-requires-clause-after c =
    let before = shifted_entries c.args.shifts.now c.args.entries.now in
    let f = shifted_by c.args.shift in
    let s = c.loop-block.block * 256 in
    let t = c.loop-block.block * 256 + 256 in
    let is = ap (moved_between s t f) c.loop-block.invariant.moved
    ∙ runs_join c.args.index s t f before c.loop-block.invariant.past (omega arith) in
    subst (All (λ (e : Entry). e.sid < 2 ^ 64)) (sym is)
    (all_between c.args.index t c.args.shift before c.requires.few c.requires.before c.requires.placed)

pub loop-block-preserved : goal.loop-block-preserved
loop-block-preserved c =
    grind (arith, common_steps, c.loop-block.invariant.past, c.move_block.ensures, c.loop-block.invariant.moved, runs_join)

pub returns : goal.returns
returns c =
    let before = shifted_entries c.args.shifts.now c.args.entries.now in
    let b = c.loop-block.block in
    let own_size : length before ≡ length c.args.entries.now =
    length-moved (λ (j : ℕ). shifted_by (shift_at c.args.shifts.now j)) 0 c.args.entries.now in
    let all : length c.args.shifts.now ≤ b = omega
    (arith, c.loop-block-test.false, c.loop-block.auto.shifts, c.loop-block.auto.block-end, c.settle.auto.shifts) in
    let end : length before ≤ b * 256 = omega (arith, all, own_size, c.requires.covered) in
    c.loop-block.invariant.moved
    ∙ runs_end c.args.index (b * 256) (length c.args.entries.now) (shifted_by c.args.shift) before end (omega (arith, own_size))
