use Rattle.std.proofs.Common.{◌≡◌, ℕ, ◌+◌, ◌-◌, ◌<◌, ◌≤◌, ◌^◌, ◌++◌, ◌∷◌, [], map, length, take, refl, sym, ap, ◌∙◌}
use Rattle.std.proofs.Common.{arith}
use Rattle.std.specs.Prelude.{slice_index_or}
use Rattle.std.proofs.lemmas.List.{map-append, take_more_set, drop-set-lt}
use Rattle.std.proofs.lemmas.Option.{slice_get-get_or}
use Rattle.model.specs.declared.entry.Entry.{Entry}
use Rattle.model.specs.Entries.{entry_at}
use Rattle.layers.specs.Shifts.{shifted_by}
use Rattle.layers.proofs.ListLemmas.{drop_next, same_at}
use Rattle.layers.proofs.ShiftLemmas.{all_at}
use Rattle.layers.proofs.SerialLemmas.{all_taken, next_take}
use Rattle.layers.proofs.shift.move_all.Goals as goal

pub loop-entry-init : goal.loop-entry-init
loop-entry-init c = record { moved = refl; left = refl }

pub overflow_add-sid : goal.overflow_add-sid
overflow_add-sid c =
    let n = c.loop-entry.entry-index in
    let es = c.loop-entry.entries in
    let d = c.entry-item.result in
    let shift = c.args.shift in
    let fits : n < length es = omega (arith, c.loop-entry-test.true, c.loop-entry.auto.entries) in
    let at = slice_get-get_or es n d fits in
    let here = same_at n es c.args.entries.now (slice_index_or es n d) c.loop-entry.invariant.left at in
    let small = all_at (λ (e : Entry). (shifted_by shift e).sid < 2 ^ 64) n c.args.entries.now (slice_index_or es n d) c.requires here in
    omega (arith, small, c.sid.ensures, c.saturating_sub.ensures)

pub loop-entry-preserved : goal.loop-entry-preserved
loop-entry-preserved c =
    let shift = c.args.shift in
    let n = c.loop-entry.entry-index in
    let es = c.loop-entry.entries in
    let d = c.entry-item.result in
    let e = slice_index_or es n d in
    let inv = c.loop-entry.invariant in
    let fits : n < length es = omega (arith, c.loop-entry-test.true, c.loop-entry.auto.entries) in
    let at = slice_get-get_or es n d fits in
    let here = same_at n es c.args.entries.now e inv.left at in
    let past : n < n + 1 = omega arith in
    let sid = ap (λ (s : ℕ). s + shift.up) (c.saturating_sub.ensures ∙ ap (λ (s : ℕ). s - shift.down) c.sid.ensures) in
    let moved : c.move_to.new.self ≡ shifted_by shift e = c.move_to.ensures ∙ ap (λ (s : ℕ). entry_at s e.change) sid in
    record {
      moved =
          take_more_set es n c.move_to.new.self fits
          ∙ (λ i. inv.moved i ++ moved i ∷ [])
          ∙ sym (map-append (shifted_by shift) (take n c.args.entries.now) (e ∷ []))
          ∙ ap (map (shifted_by shift)) (sym (next_take n c.args.entries.now e here));
      left = drop-set-lt (n + 1) es n c.move_to.new.self past ∙ drop_next n es c.args.entries.now inv.left;
    }

pub returns : goal.returns
returns c =
    let n = c.loop-entry.entry-index in
    let own_end : length c.args.entries.now ≤ n = omega (arith, c.loop-entry-test.false) in
    let end : length c.loop-entry.entries ≤ n = omega (arith, own_end, c.loop-entry.auto.entries) in
    sym (all_taken n c.loop-entry.entries end)
    ∙ c.loop-entry.invariant.moved
    ∙ ap (map (shifted_by c.args.shift)) (all_taken n c.args.entries.now own_end)
