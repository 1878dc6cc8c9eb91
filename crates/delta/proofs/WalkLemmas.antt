-- Where a walk begins, by the place where a descent finds the row at a position.
use Rattle.std.proofs.Common.{◌≡◌, ℕ, zero, suc, pred, ◌+◌, ◌^◌, ◌<◌, ◌≤◌, ◌⊎◌, inl, inr, Bool, true, false, ◌&&◌, T, List, [], rules}
use Rattle.std.proofs.Common.{◌∷◌, length, take, get_or, nat_cmp, Less, Greater, is_gt, sym, ap, subst, arith}
use Rattle.std.proofs.Common.{length-take}
use Rattle.std.specs.Prelude.{ℤ, pos, ◌+ℤ◌, ◌≤ℤ◌, ◌<ℤ◌, ◌==◌, IsFalse, Some, slice_get}
use Rattle.std.specs.Ordering.{ordering_then}
use Rattle.std.proofs.lemmas.Int.{ints}
use Rattle.std.proofs.lemmas.Bool.Decides.{nat_tests}
use Rattle.values.specs.declared.row.Row.{Row}
use Rattle.model.specs.declared.entry.Entry.{Entry}
use Rattle.model.specs.declared.entry.Change.{Change}
use Rattle.model.specs.declared.entry.Change.TheVariants.{Ins, Del, Mod}
use Rattle.model.specs.Entries.{is_delete, are_ordered}
use Rattle.counted.specs.Sums.{weight_of, total}
use Rattle.counted.proofs.CallerLemmas.{total-more, total_within}
use Rattle.delta.specs.Changes.{is_delete_at}
use Rattle.delta.specs.Search.{base_cmp, first_cmp, stands_before}
use Rattle.delta.specs.Walks.{IsWalk}
use Rattle.delta.proofs.RidLemmas.{IsGap}
use Rattle.delta.proofs.CountedLemmas.{total-is, some_get, some_within, not_so, true_false}
use Rattle.delta.proofs.SearchLemmas.{nat_cmp-greater, parted, all_before, all_after, first_cmp-closed, base_cmp-closed}
use Rattle.std.proofs.lemmas.Grind.{common_steps}

-- an entry that stands before the row, and one that follows, `up` above the rows below
abbrev LeadsAt : ℕ → Change → ℕ → ℤ → Type 0
LeadsAt rid c n up = ((pos n +ℤ up) <ℤ pos rid) ⊎ (((pos n +ℤ up) ≡ pos rid) × (is_delete c ≡ true))

abbrev FollowsAt : ℕ → Change → ℕ → ℤ → Type 0
FollowsAt rid c n up = (pos rid <ℤ (pos n +ℤ up)) ⊎ (((pos n +ℤ up) ≡ pos rid) × (is_delete c ≡ false))

-- what so many entries add, by the last of them
total-last : (es : List Entry) (m : ℕ) (d : Entry) → m < length es
    → total (take (suc m) es) ≡ total (take m es) +ℤ weight_of (get_or es m d).change
total-last es m d lt = grind (arith, common_steps, total-more)

-- something comes to stand behind no insert at its position
module _ (after : Change → Bool) (first : (row : Row) → after (Ins row) ≡ false) (rid : ℕ) where
  -- past an entry that stands before it, rows end by the position
  lead_le : (c : Change) (n : ℕ) (up : ℤ) → (((pos n +ℤ up) <ℤ pos rid) ⊎ (((pos n +ℤ up) ≡ pos rid) × (after c ≡ true)))
      → (up +ℤ weight_of c) ≤ℤ pos rid
  lead_le (Ins row) n up (inl lt) = omega (arith, ints)
  lead_le (Ins row) n up (inr h) = absurd (true_false (after (Ins row)) h.1 (first row))
  lead_le (Del key) n up (inl lt) = omega (arith, ints)
  lead_le (Del key) n up (inr h) = let e = h.0 in omega (arith, ints)
  lead_le (Mod col value) n up (inl lt) = omega (arith, ints)
  lead_le (Mod col value) n up (inr h) = let e = h.0 in omega (arith, ints)

  -- what the entries before it add is no more than its position
  total-walk-le : (es : List Entry) (n : ℕ) → IsGap after (pos rid) (pos 0) es n → total (take n es) ≤ℤ pos rid
  total-walk-le [] zero g = omega (arith, ints)
  total-walk-le [] (suc m) g = absurd (let within = g.within in omega arith)
  total-walk-le (e ∷ es) zero g = omega (arith, ints)
  total-walk-le (e ∷ es) (suc m) g =
      let within = g.within in
      let x = get_or (e ∷ es) m e in
      let le = lead_le x.change x.sid (total (take m (e ∷ es)) +ℤ pos 0) (g.low m e (omega arith)) in
      let more = total-last (e ∷ es) m e (omega arith) in
      omega (arith, ints)

  -- and it moves nothing out of range
  pub walk_bounds : (es : List Entry) (n : ℕ) (shift : ℤ) → IsGap after (pos rid) (pos 0) es n → shift ≡ total (take n es)
      → length es ≤ 2 ^ 40 → (shift ≤ℤ pos rid) × (pos 0 ≤ℤ (shift +ℤ pos (2 ^ 40))) × (shift ≤ℤ pos (2 ^ 40))
  walk_bounds es n shift g is few =
      let le = total-walk-le es n g in
      let sum = total_within (take n es) in
      (omega (arith, ints), omega (arith, ints, length-take n es), omega (arith, ints, length-take n es))

module _ (rid s : ℕ) where
  below : (n : ℕ) (c : Change) → n < s → is_gt (ordering_then (nat_cmp s n) (base_cmp c)) ≡ true
  below n c lt = ap (λ r. is_gt (ordering_then r (base_cmp c))) (nat_cmp-greater s n lt)

  insert_there : (n : ℕ) → n ≤ s → is_gt (ordering_then (nat_cmp s n) Greater) ≡ true
  insert_there n le = search rules

  -- an entry just before the place comes before what becomes of the base row
  lead_before : (c : Change) (n : ℕ) (up : ℤ) → LeadsAt rid c n up → (pos s +ℤ (up +ℤ weight_of c)) ≡ pos rid
      → is_gt (ordering_then (nat_cmp s n) (base_cmp c)) ≡ true
  lead_before (Ins row) n up (inl lt) sum = insert_there n (omega (arith, ints))
  lead_before (Ins row) n up (inr h) sum = absurd (let b = h.1 in cc)
  lead_before (Del key) n up (inl lt) sum = below n (Del key) (omega (arith, ints))
  lead_before (Del key) n up (inr h) sum = below n (Del key) (let e = h.0 in omega (arith, ints))
  lead_before (Mod col value) n up (inl lt) sum = below n (Mod col value) (omega (arith, ints))
  lead_before (Mod col value) n up (inr h) sum = absurd (let b = h.1 in cc)

  from_there : (n : ℕ) → s ≤ n → is_gt (ordering_then (nat_cmp s n) Less) ≡ false
  from_there n le = search rules

  -- and the one at it stands at the SID or past it
  follow_after : (c : Change) (n : ℕ) (up : ℤ) → FollowsAt rid c n up → (pos s +ℤ up) ≡ pos rid
      → is_gt (ordering_then (nat_cmp s n) Less) ≡ false
  follow_after c n up (inl lt) sum = from_there n (omega (arith, ints))
  follow_after c n up (inr h) sum = from_there n (let e = h.0 in omega (arith, ints))

  past : (n : ℕ) (b : Bool) → s < n → ((n == s) && b) ≡ false
  past n b lt = grind (arith, nat_tests)

  no_delete : (n : ℕ) (b : Bool) → b ≡ false → ((n == s) && b) ≡ false
  no_delete n b e = grind (arith, nat_tests)

  -- and does not delete the row there
  follow_live : (c : Change) (n : ℕ) (up : ℤ) → FollowsAt rid c n up → (pos s +ℤ up) ≡ pos rid
      → ((n == s) && is_delete c) ≡ false
  follow_live c n up (inl lt) sum = past n (is_delete c) (omega (arith, ints))
  follow_live c n up (inr h) sum = no_delete n (is_delete c) h.1

-- the place of the row at a position
module _ (key_cols rid s : ℕ) (es : List Entry) (n : ℕ) (ordered : T (are_ordered key_cols es))
    (g : IsGap is_delete (pos rid) (pos 0) es n) (sum : (pos s +ℤ total (take n es)) ≡ pos rid) where
  last_before : (m : ℕ) (d : Entry) → m + 1 ≡ n → stands_before base_cmp s (get_or es m d) ≡ true
  last_before m d is =
      let within = g.within in
      let x = get_or es m d in
      let more = total-last es m d (omega arith) in
      let same = ap (λ k. total (take k es)) (let f : suc m ≡ n = omega arith in f) in
      lead_before rid s x.change x.sid (total (take m es) +ℤ pos 0) (g.low m d is) (omega (arith, ints))

  none : (total (take n es) +ℤ pos 0) ≡ total (take n es)
  none = omega (arith, ints)

  next_follows : (d : Entry) → n < length es → FollowsAt rid (get_or es n d).change (get_or es n d).sid (total (take n es))
  next_follows d lt = subst (λ (up : ℤ). FollowsAt rid (get_or es n d).change (get_or es n d).sid up) none (g.high d lt)

  next_after : (d : Entry) → n < length es → stands_before first_cmp s (get_or es n d) ≡ false
  next_after d lt = follow_after rid s (get_or es n d).change (get_or es n d).sid (total (take n es)) (next_follows d lt) sum

  each_before : (m : ℕ) → m + 1 ≡ n → (k : ℕ) (d : Entry) → k < n → stands_before base_cmp s (get_or es k d) ≡ true
  each_before m is k d lt =
      let within = g.within in
      parted key_cols base_cmp (base_cmp-closed key_cols) s es ordered k m d (omega arith) (omega arith) (last_before m d is)

  each_after : (k : ℕ) (d : Entry) → n ≤ k → k < length es → stands_before first_cmp s (get_or es k d) ≡ false
  each_after k d le lt =
      let test = stands_before first_cmp s in
      let earlier = parted key_cols first_cmp (first_cmp-closed key_cols) s es ordered n k d le lt in
      not_so (test (get_or es k d)) (λ yes. true_false (test (get_or es n d)) (earlier yes) (next_after d (omega arith)))

  live_at : (e : Entry) → slice_get es n ≡ Some e → IsFalse (is_delete_at s e)
  live_at e is =
      let same = some_get es n e e (sym is) in
      subst (λ (x : Entry). is_delete_at s x ≡ false) (sym same)
      (follow_live rid s (get_or es n e).change (get_or es n e).sid (total (take n es)) (next_follows e (some_within es n e (sym is))) sum)

  pub walk_is : IsWalk es rid s n
  walk_is = record {
    within = g.within;
    before = all_before (stands_before base_cmp s) n es (λ k d low lt. each_before (pred n) (omega arith) k d lt);
    after = all_after (stands_before first_cmp s) n es each_after;
    live = live_at;
    position = omega (arith, ints, total-is (take n es));
  }
