use Rattle.std.proofs.Common.{◌≡◌, ℕ, T, ◌+◌, ◌*◌, ◌/◌, ◌<◌, ◌^◌, ◌++◌, map, ◌≤◌, not, None, Some, List, length, take, drop}
use Rattle.std.proofs.Common.{sym, ap, ◌∙◌, subst, arith}
use Rattle.std.specs.Prelude.{nat_lt, slice_get, slice_index_or, slice_set}
use Rattle.std.specs.List.{All, list_all}
use Rattle.std.specs.Option.{option_copied}
use Rattle.std.proofs.lemmas.List.{map-append, take-append-drop}
use Rattle.std.proofs.lemmas.List.Elements.{All-set, All-weaker}
use Rattle.std.proofs.lemmas.Option.{slice_get-get_or}
use Rattle.model.specs.declared.entry.Entry.{Entry}
use Rattle.model.specs.Entries.{entry_at}
use Rattle.model.specs.Rebasing.{first_clash, rebased_entries, rebased_entry}
use Rattle.delta.specs.Tree.{Tree}
use Rattle.layers.specs.declared.shift.Shift.{Shift}
use Rattle.layers.specs.Held.{moved_by}
use Rattle.layers.specs.Over.{AreAligned}
use Rattle.layers.specs.Serialization.{IsClashBeside}
use Rattle.layers.specs.Shifts.{moved_between, no_shift, shift_at, shifted_by, shifted_entries}
use Rattle.layers.proofs.ListLemmas.{IsMoved, begins, begins_first, ended, goes_on, none_copied, rest, same_at}
use Rattle.layers.proofs.ListLemmas.{small_from, some_is}
use Rattle.layers.proofs.PassLemmas.{ahead_at, counts_fit}
use Rattle.layers.proofs.SerialLemmas.{clash_here, clash_is, order_x, small_sid}
use Rattle.layers.proofs.ShiftLemmas.{length-moved, map_alike, moved_to_end, own_block, puts_own, stands_own}
use Rattle.layers.proofs.list.move_past.Goals as goal
use Rattle.layers.proofs.list.move_past.Goals.{in-Some, in-None, After-index-entries-index, After-loop-index}
use Rattle.std.proofs.lemmas.Grind.{common_steps}

-- the entries beside which the other tree's stand
abbrev own : ℕ → List Entry → Tree
own key_cols entries = record { key_cols = key_cols; entries = entries }

-- as many as there are
length-shifted : (ss : List Shift) (es : List Entry) → length (shifted_entries ss es) ≡ length es
length-shifted ss es = length-moved (λ (j : ℕ). shifted_by (shift_at ss j)) 0 es

-- the entry of a settled block
here_is : (ss new : List Shift) (entries es : List Entry) (n : ℕ) (e : Entry) → n < length es → length es ≤ length ss * 256
    → new ≡ slice_set ss (n / 256) no_shift → shifted_entries new es ≡ entries → slice_get es n ≡ Some e
    → (shift_at new n ≡ no_shift) × (slice_get entries n ≡ Some e)
here_is ss new entries es n e lt covered is same at = grind (arith, common_steps, own_block, stands_own)

-- the entry at hand, whose block is settled
at_hand : (c : After-index-entries-index) → (shift_at c.settle.new.shifts c.loop-index.index ≡ no_shift)
    × (slice_get (shifted_entries c.loop-index.shifts c.loop-index.entries) c.loop-index.index
    ≡ Some (slice_index_or c.settle.new.entries c.loop-index.index c.index-entries-index.result))
at_hand c =
    let n = c.loop-index.index in
    let es = c.settle.new.entries in
    let d = c.index-entries-index.result in
    let lt : n < length es = omega (arith, c.loop-index-test.true, c.settle.auto.entries) in
    let covered : length es ≤ length c.loop-index.shifts * 256 = omega
    (arith, c.requires.covered, c.settle.auto.entries, c.loop-index.auto.entries, c.loop-index.auto.shifts) in
    here_is c.loop-index.shifts c.settle.new.shifts (shifted_entries c.loop-index.shifts c.loop-index.entries) es n (slice_index_or es n d)
    lt covered c.settle.ensures.shifts c.settle.ensures.same (slice_get-get_or es n d lt)

pub count_below-index-requires : goal.count_below-index-requires
count_below-index-requires c =
    let y = c.args.other.now in
    let all = shifted_entries c.args.shifts.now c.args.entries.now in
    All-weaker (λ (e : Entry). e.sid < 2 ^ 63) (λ (e : Entry). e.sid < 2 ^ 64) (λ e lt. omega (arith, lt)) all
    (small_from c.args.rule (own y.key_cols all) y c.requires.aligned 0)

pub loop-index-init : goal.loop-index-init
loop-index-init c =
    let y = c.args.other.now in
    let all = shifted_entries c.args.shifts.now c.args.entries.now in
    let x = own y.key_cols all in
    let cursor = c.of-cursor.result in
    let here = c.of-cursor.ensures in
    record {
      moved = λ (w : AreAligned x y).
          elim c.match-first.branch [
            | in-Some b ↦
                let there = b.in-Some.there.now in
                let ahead = sym (ahead_at cursor here.cursor) in
                let at = ap (slice_get cursor.tree.now.entries) (sym here.passed) ∙ sym ahead ∙ sym c.first.ensures
                ∙ ap option_copied b.in-Some.is in
                let ordered = order_x c.args.rule x y w in
                let n = b.count_below-index.result in
                let below = subst (λ (s : ℕ). T (list_all (λ e. nat_lt e.sid s) (take n all))) b.sid.ensures
                (b.count_below-index.ensures.below y.key_cols ordered) in
                let within : n ≤ length all = omega
                (arith, b.count_below-index.ensures.within, length-shifted c.args.shifts.now c.args.entries.now) in
                let start = begins c.args.rule x y w cursor here.cursor here.tree here.passed there at n within below in
                subst (IsMoved c.args.rule x y w all cursor) (sym b.index-is) start
            | in-None b ↦
                subst (IsMoved c.args.rule x y w all cursor) (sym b.index-is)
                (begins_first c.args.rule x y w cursor here.cursor here.tree here.passed)
          ];
      placed =
          All-weaker (λ (e : Entry). e.sid < 2 ^ 63) (λ (e : Entry). e.sid < 2 ^ 64) (λ e lt. omega (arith, lt)) all
          (small_from c.args.rule x y c.requires.aligned 0);
    }

pub move_rest-requires-clause-few : goal.move_rest-requires-clause-few
move_rest-requires-clause-few c =
    let inv = c.loop-index.invariant.moved c.requires.aligned in
    let few = counts_fit c.loop-index.cursor inv.cursor in
    omega (arith, few, c.net.ensures.few)

pub move_rest-requires-clause-placed : goal.move_rest-requires-clause-placed
move_rest-requires-clause-placed c =
    let y = c.args.other.now in
    let all = shifted_entries c.args.shifts.now c.args.entries.now in
    let inv = c.loop-index.invariant.moved c.requires.aligned in
    subst (All (λ (e : Entry). e.sid < 2 ^ 63)) (sym inv.left)
    (small_from c.args.rule (own y.key_cols all) y c.requires.aligned c.loop-index.index)

pub returns-then-is_none-clause-clash : goal.returns-then-is_none-clause-clash
returns-then-is_none-clause-clash c =
    let y = c.args.other.now in
    let x = own y.key_cols (shifted_entries c.args.shifts.now c.args.entries.now) in
    let cursor = c.loop-index.cursor in
    let n = c.loop-index.index in
    let inv = c.loop-index.invariant.moved c.requires.aligned in
    let none = sym c.first-in-loop-index.ensures
    ∙ none_copied c.first-in-loop-index.result (c.is_none.ensures ∙ ap not c.if-is_none.true) in
    let past = ahead_at cursor inv.cursor ∙ none in
    let alike = rest c.args.rule x y c.requires.aligned cursor inv.cursor inv.tree past (length x.entries) n (omega arith) inv.ready in
    sym (inv.clear ∙ alike.0)

pub returns-then-is_none-clause-moved : goal.returns-then-is_none-clause-moved
returns-then-is_none-clause-moved c =
    let y = c.args.other.now in
    let x = own y.key_cols (shifted_entries c.args.shifts.now c.args.entries.now) in
    let cursor = c.loop-index.cursor in
    let n = c.loop-index.index in
    let so_far = shifted_entries c.loop-index.shifts c.loop-index.entries in
    let inv = c.loop-index.invariant.moved c.requires.aligned in
    let none = sym c.first-in-loop-index.ensures
    ∙ none_copied c.first-in-loop-index.result (c.is_none.ensures ∙ ap not c.if-is_none.true) in
    let past = ahead_at cursor inv.cursor ∙ none in
    let alike = rest c.args.rule x y c.requires.aligned cursor inv.cursor inv.tree past (length x.entries) n (omega arith) inv.ready in
    let to = rebased_entry y.key_cols y.entries in
    let by = shifted_by c.net.result in
    let size = length-shifted c.loop-index.shifts c.loop-index.entries in
    λ is.
    c.move_rest.ensures
    ∙ ap (λ (k : ℕ). moved_between n k by so_far) (sym size)
    ∙ moved_to_end n by so_far
    ∙ ap (λ (es : List Entry). take n so_far ++ es) (map_alike by (moved_by cursor.added cursor.gone) (drop n so_far) c.net.ensures.moved)
    ∙ (λ i. inv.moved i ++ map (moved_by cursor.added cursor.gone) (inv.left i))
    ∙ ap (λ (es : List Entry). map to (take n x.entries) ++ es) (sym alike.1)
    ∙ sym (map-append to (take n x.entries) (drop n x.entries))
    ∙ ap (map to) (take-append-drop n x.entries)

pub find-found-requires-clause-cursor : goal.find-found-requires-clause-cursor
find-found-requires-clause-cursor c = let inv = c.loop-index.invariant.moved c.requires.aligned in inv.cursor

pub find-found-requires-clause-before : goal.find-found-requires-clause-before
find-found-requires-clause-before c =
    let all = shifted_entries c.args.shifts.now c.args.entries.now in
    let so_far = shifted_entries c.loop-index.shifts c.loop-index.entries in
    let inv = c.loop-index.invariant.moved c.requires.aligned in
    let n = c.loop-index.index in
    let es = c.settle.new.entries in
    let d = c.index-entries-index.result in
    let e = slice_index_or es n d in
    let here = at_hand (goal.at.find-found-requires-clause-before c).After-index-entries-index in
    inv.ready e (same_at n so_far all e inv.left here.1)

pub find-found-requires-clause-sid : goal.find-found-requires-clause-sid
find-found-requires-clause-sid c =
    let y = c.args.other.now in
    let all = shifted_entries c.args.shifts.now c.args.entries.now in
    let so_far = shifted_entries c.loop-index.shifts c.loop-index.entries in
    let inv = c.loop-index.invariant.moved c.requires.aligned in
    let n = c.loop-index.index in
    let es = c.settle.new.entries in
    let d = c.index-entries-index.result in
    let e = slice_index_or es n d in
    let here = at_hand (goal.at.find-found-requires-clause-sid c).After-index-entries-index in
    small_sid c.args.rule (own y.key_cols all) y c.requires.aligned n e (same_at n so_far all e inv.left here.1)

pub returns-in-Some-clash-clause-clash : goal.returns-in-Some-clash-clause-clash
returns-in-Some-clash-clause-clash c =
    let y = c.args.other.now in
    let x = own y.key_cols (shifted_entries c.args.shifts.now c.args.entries.now) in
    let so_far = shifted_entries c.loop-index.shifts c.loop-index.entries in
    let inv = c.loop-index.invariant.moved c.requires.aligned in
    let n = c.loop-index.index in
    let es = c.settle.new.entries in
    let d = c.index-entries-index.result in
    let e = slice_index_or es n d in
    let here = at_hand (goal.at.returns-in-Some-clash-clause-clash c).After-index-entries-index in
    let at = same_at n so_far x.entries e inv.left here.1 in
    let beside = subst (λ (t : Tree). IsClashBeside c.args.rule t.key_cols n e t.entries c.find-found.result.clash) inv.tree
    c.find-found.ensures.clash in
    let clash = clash_is c.args.rule x y c.requires.aligned n e beside.0 at beside.1 ∙ sym beside.2 ∙ c.in-Some-clash.is in
    sym (inv.clear ∙ clash_here c.args.rule y.key_cols n x.entries y.entries e c.in-Some-clash.clash at clash)

pub loop-index-preserved : goal.loop-index-preserved
loop-index-preserved c =
    let y = c.args.other.now in
    let x = own y.key_cols (shifted_entries c.args.shifts.now c.args.entries.now) in
    let so_far = shifted_entries c.loop-index.shifts c.loop-index.entries in
    let n = c.loop-index.index in
    let es = c.settle.new.entries in
    let ss = c.settle.new.shifts in
    let d = c.index-entries-index.result in
    let e = slice_index_or es n d in
    let found = c.find-found.ensures in
    let lt : n < length es = omega (arith, c.loop-index-test.true, c.settle.auto.entries) in
    let own_at = slice_get-get_or es n d lt in
    let here = at_hand (goal.at.loop-index-preserved c).After-index-entries-index in
    let at = here.1 in
    let new = c.move_to.new.self in
    let there = slice_get-get_or es n c.index-entries-index-in-loop-index.result lt in
    let same : slice_index_or es n c.index-entries-index-in-loop-index.result ≡ e = some_is _ _ (sym there ∙ own_at) in
    let moved = c.move_to.ensures ∙ ap (λ (z : Entry). entry_at c.find-found.result.rid z.change) same in
    let put = puts_own ss es n new here.0 ∙ (λ i. slice_set (c.settle.ensures.same i) n new) in
    record {
      moved = λ (w : AreAligned x y).
          let inv = c.loop-index.invariant.moved w in
          let first = same_at n so_far x.entries e inv.left at in
          let beside =
          subst (λ (t : Tree). IsClashBeside c.args.rule t.key_cols n e t.entries c.find-found.result.clash) inv.tree found.clash in
          let none = clash_is c.args.rule x y w n e beside.0 first beside.1 ∙ sym beside.2 ∙ c.in_default.is in
          let rid = found.rid ∙ ap (λ (t : Tree). (rebased_entry t.key_cols t.entries e).sid) inv.tree in
          let next = goes_on c.args.rule x y w so_far c.loop-index.cursor c.find-found.new.self n c.find-found.result.rid e inv
          at found.tree found.cursor found.before rid none in
          subst (λ (zs : List Entry). IsMoved c.args.rule x y w zs c.find-found.new.self (n + 1))
          (ap (slice_set so_far n) (sym moved) ∙ sym put) next;
      placed =
          subst (All (λ (z : Entry). z.sid < 2 ^ 64)) (sym put)
          (All-set (λ (z : Entry). z.sid < 2 ^ 64) so_far n new
          (subst (λ (z : Entry). z.sid < 2 ^ 64) (sym moved) (omega (arith, c.find-found.type_inv))) c.loop-index.invariant.placed);
    }

-- every entry has passed
every : (c : After-loop-index) → (first_clash c.args.rule c.args.other.now.key_cols
    (shifted_entries c.args.shifts.now c.args.entries.now) c.args.other.now.entries ≡ None)
    × (shifted_entries c.loop-index.shifts c.loop-index.entries
    ≡ rebased_entries c.args.other.now.key_cols c.args.other.now.entries (shifted_entries c.args.shifts.now c.args.entries.now))
every c =
    let y = c.args.other.now in
    let n = c.loop-index.index in
    let all = shifted_entries c.args.shifts.now c.args.entries.now in
    let so_far = shifted_entries c.loop-index.shifts c.loop-index.entries in
    let size = length-shifted c.loop-index.shifts c.loop-index.entries in
    let end : length so_far ≤ n = omega (arith, c.loop-index-test.false, size) in
    let own_end : length all ≤ n = omega
    (arith, end, size, length-shifted c.args.shifts.now c.args.entries.now, c.loop-index.auto.entries) in
    ended c.args.rule (own y.key_cols all) y c.requires.aligned so_far c.loop-index.cursor n
    (c.loop-index.invariant.moved c.requires.aligned) end own_end

pub returns-clause-clash : goal.returns-clause-clash
returns-clause-clash c = sym (every (goal.at.returns-clause-clash c).After-loop-index).0

pub returns-clause-moved : goal.returns-clause-moved
returns-clause-moved c = λ is. (every (goal.at.returns-clause-moved c).After-loop-index).1
