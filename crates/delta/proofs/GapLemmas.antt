-- Where an insert comes to stand at a position, by the place where a descent finds it.
use Rattle.std.proofs.Common.{◌≡◌, ℕ, zero, suc, ◌+◌, ◌<◌, ◌≤◌, ◌⊎◌, inl, inr, Bool, true, false, ◌&&◌, ◌||◌, T, List, [], ◌∷◌, rules}
use Rattle.std.proofs.Common.{map, take, get_or, Ordering, Less, Equal, Greater, is_lt, refl, sym, ap, subst, arith}
use Rattle.std.specs.Prelude.{ℤ, pos, ◌+ℤ◌, ◌-ℤ◌, ◌<ℤ◌, ◌==◌, nat_lt}
use Rattle.std.specs.List.{list_all}
use Rattle.std.proofs.lemmas.Int.{ints}
use Rattle.std.proofs.lemmas.Option.{slice_get-get_or}
use Rattle.std.proofs.lemmas.Bool.{cases_lt}
use Rattle.std.proofs.lemmas.Bool.Decides.{nat_tests}
use Rattle.values.specs.Orders.{key_cmp, key_cmp_total}
use Rattle.values.specs.declared.row.Key.{Key}
use Rattle.model.specs.declared.entry.Entry.{Entry}
use Rattle.model.specs.declared.entry.Change.{Change}
use Rattle.model.specs.declared.entry.Change.TheVariants.{Ins, Del, Mod}
use Rattle.model.specs.Entries.{change_cmp, entry_cmp, are_ordered}
use Rattle.model.specs.Places.{deleted_keys, insert_count, delete_count}
use Rattle.model.proofs.CallerLemmas.{first, second, less}
use Rattle.counted.specs.Sums.{weight_of, total, next_sid}
use Rattle.delta.specs.Positions.{deletes_below, is_passed, keys_ascend, deletes_ascend, IsGapAt}
use Rattle.delta.proofs.RidLemmas.{Leads, Follows, IsGap}
use Rattle.delta.proofs.CountedLemmas.{ordered_from_lawful, total-is, some_get, some_within, true_false}
use Rattle.std.proofs.lemmas.Grind.{common_steps}

-- ---- what is passed, by numbers

pub below_passes : (next row : ℕ) (b : Bool) → next < row → (nat_lt next row || ((next == row) && b)) ≡ true
below_passes next row b h = grind (arith, nat_tests)

level_passes : (next row : ℕ) (b : Bool) → next ≡ row → b ≡ true → (nat_lt next row || ((next == row) && b)) ≡ true
level_passes next row b h e = grind (arith, nat_tests)

above_stops : (next row : ℕ) (b : Bool) → row < next → (nat_lt next row || ((next == row) && b)) ≡ false
above_stops next row b h = grind (arith, nat_tests)

level_stops : (next row : ℕ) (b : Bool) → next ≡ row → b ≡ false → (nat_lt next row || ((next == row) && b)) ≡ false
level_stops next row b h e = grind (arith, nat_tests)

-- ---- the keys of deleted rows

ascend_tail : (c : Change) (cs : List Change) → T (keys_ascend (deleted_keys (c ∷ cs))) → T (keys_ascend (deleted_keys cs))
ascend_tail (Ins row) cs h = h
ascend_tail (Del key) cs h = second (list_all (λ other. is_lt (key_cmp key other)) (deleted_keys cs)) _ h
ascend_tail (Mod col value) cs h = h

ascend_next : (k j : Key) (cs : List Change) → T (keys_ascend (deleted_keys (Del k ∷ Del j ∷ cs))) → key_cmp k j ≡ Less
ascend_next k j cs h =
    less _ (first (is_lt (key_cmp k j)) _ (first (list_all (λ other. is_lt (key_cmp k other)) (j ∷ deleted_keys cs)) _ h))

below_trans : (k j key : Key) → key_cmp k j ≡ Less → is_lt (key_cmp j key) ≡ true → is_lt (key_cmp k key) ≡ true
below_trans k j key a b = ap is_lt (key_cmp_total.trans k j key a (lt_less (key_cmp j key) b))
  where
    lt_less : (r : Ordering) → is_lt r ≡ true → r ≡ Less
    lt_less Less e = refl
    lt_less Equal e = cc
    lt_less Greater e = cc

module _ (key_cols : ℕ) (key : Key) (rid : ℕ) where
  abbrev after : Change → Bool
  after = deletes_below key

  -- an entry before one that stands before the row stands before it
  step : (ce cf : Change) (cs : List Change) (se sf : ℕ) (up : ℤ) → next_sid se ce ≤ sf → (sf ≡ se → change_cmp key_cols ce cf ≡ Less)
      → T (keys_ascend (deleted_keys (ce ∷ cf ∷ cs)))
      → (((pos sf +ℤ (weight_of ce +ℤ up)) <ℤ pos rid) ⊎ (((pos sf +ℤ (weight_of ce +ℤ up)) ≡ pos rid) × (deletes_below key cf ≡ true)))
      → (((pos se +ℤ up) <ℤ pos rid) ⊎ (((pos se +ℤ up) ≡ pos rid) × (deletes_below key ce ≡ true)))
  step (Ins row) cf cs se sf up next tie asc (inl lt) = inl (omega (arith, ints))
  step (Ins row) cf cs se sf up next tie asc (inr h) = inl (let e = h.0 in omega (arith, ints))
  step (Del k) cf cs se sf up next tie asc (inl lt) = inl (omega (arith, ints))
  step (Del k) (Ins row) cs se sf up next tie asc (inr h) = absurd (let b = h.1 in cc)
  step (Del k) (Mod col value) cs se sf up next tie asc (inr h) = absurd (let b = h.1 in cc)
  step (Del k) (Del j) cs se sf up next tie asc (inr h) = grind (arith, common_steps, cases_lt, ints, below_trans, ascend_next)
  step (Mod col value) cf cs se sf up next tie asc (inl lt) = inl (omega (arith, ints))
  step (Mod col value) (Ins row) cs se sf up next tie asc (inr h) = absurd (let b = h.1 in cc)
  step (Mod col value) (Mod other v) cs se sf up next tie asc (inr h) = absurd (let b = h.1 in cc)
  step (Mod col value) (Del j) cs se sf up next tie asc (inr h) = grind (arith, common_steps, cases_lt, ints)

  tie_of : (e f : Entry) → entry_cmp key_cols e f ≡ Less → f.sid ≡ e.sid → change_cmp key_cols e.change f.change ≡ Less
  tie_of e f below same = search rules

  gap_tail : (e : Entry) (es : List Entry) (n : ℕ) (up : ℤ) → IsGap after (pos rid) up (e ∷ es) (suc n)
      → IsGap after (pos rid) (weight_of e.change +ℤ up) es n
  gap_tail e es n up g =
      let within = g.within in
      record {
        within = omega arith;
        low = λ m d is.
            let sum : ((weight_of e.change +ℤ total (take m es)) +ℤ up) ≡ (total (take m es) +ℤ (weight_of e.change +ℤ up)) =
            omega (arith, ints) in
            subst (λ (w : ℤ). Leads after (pos rid) (get_or es m d) w) sum (g.low (suc m) d (omega arith));
        high = λ d lt.
            let sum : ((weight_of e.change +ℤ total (take n es)) +ℤ up) ≡ (total (take n es) +ℤ (weight_of e.change +ℤ up)) =
            omega (arith, ints) in
            subst (λ (w : ℤ). Follows after (pos rid) (get_or es n d) w) sum (g.high d (omega arith));
      }

  follows_first : (e : Entry) (es : List Entry) (up : ℤ) → IsGap after (pos rid) up (e ∷ es) zero → Follows after (pos rid) e up
  follows_first e es up g =
      let none : (pos 0 +ℤ up) ≡ up = omega (arith, ints) in
      subst (λ (w : ℤ). Follows after (pos rid) e w) none (g.high e (omega arith))

  -- no entry stands on both sides
  apart : (e : Entry) (up : ℤ) → Leads after (pos rid) e up → Follows after (pos rid) e up → ⊥
  apart e up (inl lt) (inl gt) = omega (arith, ints)
  apart e up (inl lt) (inr h) = let same = h.0 in omega (arith, ints)
  apart e up (inr h) (inl gt) = let same = h.0 in omega (arith, ints)
  apart e up (inr h) (inr k) = true_false (after e.change) h.1 k.1

  first_leads : (e : Entry) (es : List Entry) (n : ℕ) (up : ℤ) → T (are_ordered key_cols (e ∷ es)) → T (deletes_ascend (e ∷ es))
      → IsGap after (pos rid) up (e ∷ es) (suc n) → Leads after (pos rid) e up
  first_leads e es zero up o a g =
      let none : (pos 0 +ℤ up) ≡ up = omega (arith, ints) in
      subst (λ (w : ℤ). Leads after (pos rid) e w) none (g.low zero e (omega arith))
  first_leads e [] (suc n) up o a g = absurd (let within = g.within in omega arith)
  first_leads e (f ∷ es) (suc n) up o a g =
      let all = first (list_all (λ y. is_lt (entry_cmp key_cols e y)) (f ∷ es)) (are_ordered key_cols (f ∷ es)) o in
      let rest = second (list_all (λ y. is_lt (entry_cmp key_cols e y)) (f ∷ es)) (are_ordered key_cols (f ∷ es)) o in
      let below = less (entry_cmp key_cols e f) (first (is_lt (entry_cmp key_cols e f)) _ all) in
      let next = (ordered_from_lawful key_cols (e ∷ f ∷ es) o).0.0 in
      let later =
      first_leads f es n (weight_of e.change +ℤ up) rest (ascend_tail e.change (map (λ x. x.change) (f ∷ es)) a)
      (gap_tail e (f ∷ es) (suc n) up g) in
      step e.change f.change (map (λ x. x.change) es) e.sid f.sid up next (tie_of e f below) a later

  -- the gaps of a list in order are one
  gap_only : (es : List Entry) (n m : ℕ) (up : ℤ) → T (are_ordered key_cols es) → T (deletes_ascend es)
      → IsGap after (pos rid) up es n → IsGap after (pos rid) up es m → n ≡ m
  gap_only es zero zero up o a g h = refl
  gap_only [] zero (suc m) up o a g h = absurd (let within = h.within in omega arith)
  gap_only [] (suc n) m up o a g h = absurd (let within = g.within in omega arith)
  gap_only (e ∷ es) zero (suc m) up o a g h = absurd (apart e up (first_leads e es m up o a h) (follows_first e es up g))
  gap_only (e ∷ es) (suc n) zero up o a g h = absurd (apart e up (first_leads e es n up o a g) (follows_first e es up h))
  gap_only (e ∷ es) (suc n) (suc m) up o a g h =
      let rest = second (list_all (λ y. is_lt (entry_cmp key_cols e y)) es) (are_ordered key_cols es) o in
      ap suc (gap_only es n m (weight_of e.change +ℤ up) rest (ascend_tail e.change (map (λ x. x.change) es) a) (gap_tail e es n up g)
      (gap_tail e es m up h))

  leads_passed : (c : Change) (s a d : ℕ) (up : ℤ) → up ≡ (pos a -ℤ pos d)
      → (((pos s +ℤ up) <ℤ pos rid) ⊎ (((pos s +ℤ up) ≡ pos rid) × (deletes_below key c ≡ true))) → is_passed key (s + a) (rid + d) c ≡ true
  leads_passed c s a d up is (inl lt) = below_passes (s + a) (rid + d) (deletes_below key c) (omega (arith, ints))
  leads_passed c s a d up is (inr h) = level_passes (s + a) (rid + d) (deletes_below key c) (let e = h.0 in omega (arith, ints)) h.1

  follows_stops : (c : Change) (s a d : ℕ) (up : ℤ) → up ≡ (pos a -ℤ pos d)
      → ((pos rid <ℤ (pos s +ℤ up)) ⊎ (((pos s +ℤ up) ≡ pos rid) × (deletes_below key c ≡ false)))
      → is_passed key (s + a) (rid + d) c ≡ false
  follows_stops c s a d up is (inl lt) = above_stops (s + a) (rid + d) (deletes_below key c) (omega (arith, ints))
  follows_stops c s a d up is (inr h) = level_stops (s + a) (rid + d) (deletes_below key c) (let e = h.0 in omega (arith, ints)) h.1

  passed_leads : (c : Change) (s a d : ℕ) (up : ℤ) → up ≡ (pos a -ℤ pos d) → is_passed key (s + a) (rid + d) c ≡ true
      → ((pos s +ℤ up) <ℤ pos rid) ⊎ (((pos s +ℤ up) ≡ pos rid) × (deletes_below key c ≡ true))
  passed_leads c s a d up is h = search rules

  stops_follows : (c : Change) (s a d : ℕ) (up : ℤ) → up ≡ (pos a -ℤ pos d) → is_passed key (s + a) (rid + d) c ≡ false
      → (pos rid <ℤ (pos s +ℤ up)) ⊎ (((pos s +ℤ up) ≡ pos rid) × (deletes_below key c ≡ false))
  stops_follows c s a d up is h = search rules

  above_all : (es : List Entry) → (total es +ℤ pos 0) ≡ (pos (insert_count es) -ℤ pos (delete_count es))
  above_all es = let sum = total-is es in omega (arith, ints)

  module _ (es : List Entry) where
    -- where a descent finds the gap, the row of an insert comes to the position
    pub gap_at : (sid n : ℕ) → (pos sid +ℤ total (take n es)) ≡ pos rid → IsGap after (pos rid) (pos 0) es n → IsGapAt rid key es sid n
    gap_at sid n at g = record {
      within = g.within;
      row = let sum = total-is (take n es) in omega (arith, ints);
      before = λ m e is there.
          let same = some_get es m e e (sym there) in
          leads_passed e.change e.sid (insert_count (take m es)) (delete_count (take m es)) (total (take m es) +ℤ pos 0)
          (above_all (take m es))
          (subst (λ (x : Entry). Leads after (pos rid) x (total (take m es) +ℤ pos 0)) (sym same) (g.low m e is));
      after = λ e there.
          let same = some_get es n e e (sym there) in
          follows_stops e.change e.sid (insert_count (take n es)) (delete_count (take n es)) (total (take n es) +ℤ pos 0)
          (above_all (take n es))
          (subst (λ (x : Entry). Follows after (pos rid) x (total (take n es) +ℤ pos 0)) (sym same)
          (g.high e (some_within es n e (sym there))));
    }

    gap_of : (sid n : ℕ) → IsGapAt rid key es sid n → IsGap after (pos rid) (pos 0) es n
    gap_of sid n g = record {
      within = g.within;
      low = λ m d is.
          let within = g.within in
          let x = get_or es m d in
          passed_leads x.change x.sid (insert_count (take m es)) (delete_count (take m es)) (total (take m es) +ℤ pos 0)
          (above_all (take m es))
          (g.before m x is (slice_get-get_or es m d (omega arith)));
      high = λ d lt.
          let x = get_or es n d in
          stops_follows x.change x.sid (insert_count (take n es)) (delete_count (take n es)) (total (take n es) +ℤ pos 0)
          (above_all (take n es))
          (g.after x (slice_get-get_or es n d lt));
    }

    -- and it comes there at no other place
    pub gap_at-only : (sid n other m : ℕ) → T (are_ordered key_cols es) → T (deletes_ascend es) → IsGapAt rid key es sid n
        → IsGapAt rid key es other m
        → (sid ≡ other) × (n ≡ m)
    gap_at-only sid n other m o a g h =
        let same = gap_only es n m (pos 0) o a (gap_of sid n g) (gap_of other m h) in
        let at : sid + insert_count (take m es) ≡ rid + delete_count (take m es) =
        subst (λ (k : ℕ). sid + insert_count (take k es) ≡ rid + delete_count (take k es)) same g.row in
        (omega (arith, at, h.row), same)
