use Rattle.std.proofs.Common.{◌≡◌, ℕ, ◌+◌, ◌-◌, ◌/◌, ◌<◌, ◌≤◌, ◌^◌, Some, length, sym, ap, ◌∙◌, subst, arith}
use Rattle.std.proofs.lemmas.Option.{slice_get-get_or}
use Rattle.model.specs.declared.entry.Entry.{Entry}
use Rattle.layers.specs.declared.shift.Shift.{Shift}
use Rattle.layers.specs.Shifts.{shift_at, shifted_by, shifted_entries}
use Rattle.layers.proofs.ListLemmas.{some_is}
use Rattle.layers.proofs.ShiftLemmas.{all_at, no_shift_past, stands_at, unmoved}
use Rattle.layers.proofs.blocks.sid_at.Goals as goal

pub overflow_add-result : goal.overflow_add-result
overflow_add-result c =
    let es = c.args.entries.now in
    let ss = c.args.shifts.now in
    let n = c.args.index in
    let e = c.index-entries-index.result in
    let there = stands_at ss es n e (slice_get-get_or es n e c.requires.index ∙ ap Some (sym c.index-entries-index.is)) in
    let small = all_at (λ (z : Entry). z.sid < 2 ^ 64) n (shifted_entries ss es) (shifted_by (shift_at ss n) e) c.requires.placed there in
    let found = c.in-Some.ensures.lookup in
    let is : c.in-Some.shift.now ≡ shift_at ss n = found.3.1 (record { down = 0; up = 0 }) in
    let own = subst (λ (s : Shift). (e.sid - s.down) + s.up < 2 ^ 64) (sym is) small in
    omega (arith, own, c.saturating_sub.ensures, c.sid-own.ensures)

pub returns-in-Some : goal.returns-in-Some
returns-in-Some c =
    let es = c.args.entries.now in
    let ss = c.args.shifts.now in
    let n = c.args.index in
    let e = c.index-entries-index.result in
    let there = stands_at ss es n e (slice_get-get_or es n e c.requires.index ∙ ap Some (sym c.index-entries-index.is)) in
    let found = c.in-Some.ensures.lookup in
    let is : c.in-Some.shift.now ≡ shift_at ss n = found.3.1 (record { down = 0; up = 0 }) in
    let own = c.saturating_sub.ensures ∙ ap (λ (s : ℕ). s - c.in-Some.shift.now.down) c.sid-own.ensures in
    λ z at.
    let same = some_is _ _ (sym there ∙ at) in
    ap (λ (s : ℕ). s + c.in-Some.shift.now.up) own
    ∙ ap (λ (s : Shift). (e.sid - s.down) + s.up) is
    ∙ ap (λ (y : Entry). y.sid) same

pub returns-in-None : goal.returns-in-None
returns-in-None c =
    let es = c.args.entries.now in
    let ss = c.args.shifts.now in
    let n = c.args.index in
    let e = c.index-entries-index.result in
    let there = stands_at ss es n e (slice_get-get_or es n e c.requires.index ∙ ap Some (sym c.index-entries-index.is)) in
    let past : length ss ≤ n / 256 = omega (arith, c.in-None.ensures.lookup) in
    let none = no_shift_past ss n past in
    λ z at.
    let same = some_is _ _ (sym there ∙ at) in
    c.sid-own.ensures
    ∙ ap (λ (y : Entry). y.sid) (sym (unmoved e) ∙ ap (λ (s : Shift). shifted_by s e) (sym none) ∙ same)
