-- The gap at a key's position in the image is at the key's place.
use Rattle.std.proofs.Common.{◌≡◌, ℕ, zero, suc, ◌+◌, ◌<◌, Bool, true, false, not, T, List, [], ◌∷◌, ◌++◌, rules}
use Rattle.std.proofs.Common.{filter, map, take, drop, nat_cmp, Less, is_lt, is_gt, refl, sym, ap, ◌∙◌}
use Rattle.std.proofs.Common.{subst, arith}
use Rattle.std.specs.Prelude.{Some, slice_get}
use Rattle.std.specs.Ordering.{ordering_then}
use Rattle.std.specs.List.{list_all}
use Rattle.std.specs.FinMap.Entries.{below_all}
use Rattle.std.proofs.lemmas.Bool.Decides.{nat_tests}
use Rattle.values.specs.Orders.{key_cmp}
use Rattle.values.specs.Shape.{Columns}
use Rattle.values.specs.declared.row.Key.{Key}
use Rattle.model.specs.declared.entry.Entry.{Entry}
use Rattle.model.specs.declared.entry.Change.{Change}
use Rattle.model.specs.declared.entry.Change.TheVariants.{Ins, Del, Mod}
use Rattle.model.specs.declared.effect.Effect.{Effect}
use Rattle.model.specs.declared.effect.Effect.TheVariants as effect
use Rattle.model.specs.Maps.{is_sorted}
use Rattle.model.specs.Table.{Table, rank}
use Rattle.model.specs.Effects.{Cells, Effects, AreOver, table_with}
use Rattle.model.specs.Entries.{entry_at, entries_of, canonical_entries}
use Rattle.model.specs.Places.{deleted_keys, insert_count, delete_count}
use Rattle.model.proofs.CallerLemmas.{first, second, both, canonical_entries-at_key}
use Rattle.delta.specs.Positions.{is_passed, keys_ascend, deletes_ascend, IsGapAt}
use Rattle.delta.specs.Search.{insert_cmp, stands_before}
use Rattle.delta.proofs.CallerLemmas.{deletes-before-insert, insert_count-cons, delete_count-cons, insert_worth, delete_worth, below_passes}
use Rattle.delta.proofs.CallerLemmas.{next_passes, rank_is}
use Rattle.layers.proofs.RowPlaceLemmas.{key_place, key_split, in_order, take_first, drop_first}
use Rattle.std.proofs.lemmas.Grind.{common_steps}

-- ---- the keys of the rows that effects delete

-- a row that is deleted has a key that passes the test
abbrev deletes_only : (Key → Bool) → Change → Bool
deletes_only p (Ins row) = true
deletes_only p (Del gone) = p gone
deletes_only p (Mod col value) = true

module _ (p : Key → Bool) (t : Table) where
  abbrev only : List Entry → Bool
  only es = list_all (λ e. deletes_only p e.change) es

  only_cells : (n : ℕ) (cells : Cells) (zs : List Entry) → T (only zs) → T (only (map (λ c. entry_at n (Mod c.0 c.1)) cells ++ zs))
  only_cells n [] zs a = a
  only_cells n (c ∷ cells) zs a = only_cells n cells zs a

  only_of : (k : Key) (f : Effect) (zs : List Entry) → T (p k) → T (only zs) → T (only (entries_of (rank k t) k f ++ zs))
  only_of k (effect.Ins row) zs h a = a
  only_of k effect.Del zs h a = both (p k) _ h a
  only_of k (effect.Mod cells) zs h a = only_cells (rank k t) cells zs a
  only_of k (effect.Rep row) zs h a = both (p k) _ h a

  -- those of the effects on keys that pass it
  only_passing : (x : Effects) → T (only (canonical_entries t (filter (λ e. p e.0) x)))
  only_passing [] = tt
  only_passing (e ∷ x) = grind (arith, common_steps, only_passing x, only_of)

-- ---- the last entry before a place

last_passes : (test : Entry → Bool) (es : List Entry) (m : ℕ) (e : Entry) → T (list_all test (take (suc m) es)) → slice_get es m ≡ Some e
    → T (test e)
last_passes test [] m e h is = cc
last_passes test (x ∷ es) zero e h is = let same : x ≡ e = cc in subst (λ (y : Entry). T (test y)) same (first (test x) _ h)
last_passes test (x ∷ es) (suc m) e h is = last_passes test es m e (second (test x) _ h) is

last_counts : (es : List Entry) (m : ℕ) (e : Entry) → slice_get es m ≡ Some e
    → (insert_count (take (suc m) es) ≡ insert_count (take m es) + insert_worth e.change) ×
    (delete_count (take (suc m) es) ≡ delete_count (take m es) + delete_worth e.change)
last_counts [] m e is = cc
last_counts (x ∷ es) zero e is = grind (arith, common_steps, insert_worth, delete_worth, insert_count-cons, delete_count-cons)
last_counts (x ∷ es) (suc m) e is = grind (arith, common_steps, last_counts es m e is, insert_count-cons, delete_count-cons)

-- ---- beside an insert of the key whose row comes to the position

module _ (key_cols sid : ℕ) (key : Key) where
  below : (n : ℕ) → T (is_gt (ordering_then (nat_cmp sid n) Less)) → n < sid
  below n h = grind (arith, nat_tests)

  -- an entry before it leads
  leads : (c : Change) (n a d rid : ℕ) → T (is_gt (ordering_then (nat_cmp sid n) (insert_cmp key_cols key c)))
      → T (deletes_only (λ k. is_lt (key_cmp k key)) c)
      → sid + (a + insert_worth c) ≡ rid + (d + delete_worth c) → is_passed key (n + a) (rid + d) c ≡ true
  leads (Ins row) n a d rid h only_it level = search rules
  leads (Del gone) n a d rid h only_it level = search rules
  leads (Mod col value) n a d rid h only_it level = let lt = below n h in below_passes (n + a) (rid + d) false (omega (arith, level))

  -- and the one behind it follows
  follows : (c : Change) (n a d rid : ℕ) → T (not (is_gt (ordering_then (nat_cmp sid n) (insert_cmp key_cols key c))))
      → T (deletes_only (λ k. not (is_lt (key_cmp k key))) c)
      → sid + a ≡ rid + d → is_passed key (n + a) (rid + d) c ≡ false
  follows (Ins row) n a d rid h only_it level = search rules
  follows (Del gone) n a d rid h only_it level = search rules
  follows (Mod col value) n a d rid h only_it level = search rules

module _ (schema : Columns) (t : Table) (x : Effects) (h : AreOver schema t x) (key : Key) where
  abbrev es : List Entry
  es = canonical_entries t x

  abbrev sid : ℕ
  sid = rank key t

  abbrev place : ℕ
  place = key_place schema t x h key

  low_deletes : T (list_all (λ e. deletes_only (λ k. is_lt (key_cmp k key)) e.change) (take place es))
  low_deletes =
      let cut = ap (take place) (canonical_entries-at_key schema t x key h.effects_are) in
      let first_of =
      take_first (canonical_entries t (filter (λ e. is_lt (key_cmp e.0 key)) x))
      (canonical_entries t (filter (λ e. not (is_lt (key_cmp e.0 key))) x)) in
      subst (λ zs. T (list_all (λ e. deletes_only (λ k. is_lt (key_cmp k key)) e.change) zs)) (sym (cut ∙ first_of))
      (only_passing (λ k. is_lt (key_cmp k key)) t x)

  high_deletes : T (list_all (λ e. deletes_only (λ k. not (is_lt (key_cmp k key))) e.change) (drop place es))
  high_deletes =
      let cut = ap (drop place) (canonical_entries-at_key schema t x key h.effects_are) in
      let rest_of =
      drop_first (canonical_entries t (filter (λ e. is_lt (key_cmp e.0 key)) x))
      (canonical_entries t (filter (λ e. not (is_lt (key_cmp e.0 key))) x)) in
      subst (λ zs. T (list_all (λ e. deletes_only (λ k. not (is_lt (key_cmp k key))) e.change) zs)) (sym (cut ∙ rest_of))
      (only_passing (λ k. not (is_lt (key_cmp k key))) t x)

  -- an insert of the key at its place comes to the key's position in the image
  pub gap_place : IsGapAt (rank key (table_with t x)) key es sid place
  gap_place =
      let split = key_split schema t x h key in
      let test = stands_before (insert_cmp schema.key_cols key) sid in
      let level : sid + insert_count (take place es) ≡ rank key (table_with t x) + delete_count (take place es) =
      omega (
        arith,
        rank_is schema t x h key place split,
        deletes-before-insert schema.key_cols sid key es place
            (in_order schema t x h key) split,
      ) in
      record {
        within = split.within;
        row = level;
        before = λ m e is at.
            let more : place ≡ suc m = omega arith in
            let counts = last_counts es m e at in
            leads schema.key_cols sid key e.change e.sid (insert_count (take m es)) (delete_count (take m es)) (rank key (table_with t x))
            (last_passes test es m e (subst (λ k. T (list_all test (take k es))) more split.before) at)
            (last_passes (λ y. deletes_only (λ k. is_lt (key_cmp k key)) y.change) es m e
            (subst (λ k. T (list_all (λ y. deletes_only (λ j. is_lt (key_cmp j key)) y.change) (take k es))) more low_deletes) at)
            (omega (arith, level, counts.0, counts.1, ap (λ k. insert_count (take k es)) more, ap (λ k. delete_count (take k es)) more));
        after = λ e at.
            follows schema.key_cols sid key e.change e.sid (insert_count (take place es)) (delete_count (take place es))
            (rank key (table_with t x))
            (next_passes (λ y. not (test y)) es place e split.after at)
            (next_passes (λ y. deletes_only (λ k. not (is_lt (key_cmp k key))) y.change) es place e high_deletes at)
            level;
      }

-- ---- the keys of the deleted rows ascend

module _ (t : Table) where
  abbrev deleted_of : List Entry → List Key
  deleted_of es = deleted_keys (map (λ e. e.change) es)

  no_deleted_cells : (n : ℕ) (cells : Cells) (zs : List Entry)
      → deleted_of (map (λ c. entry_at n (Mod c.0 c.1)) cells ++ zs) ≡ deleted_of zs
  no_deleted_cells n [] zs = refl
  no_deleted_cells n (c ∷ cells) zs = no_deleted_cells n cells zs

  abbrev all_above_key : Key → List Key → Bool
  all_above_key k ks = list_all (λ j. is_lt (key_cmp k j)) ks

  one_above : (k j : Key) (f : Effect) (zs : List Entry) → T (is_lt (key_cmp k j)) → T (all_above_key k (deleted_of zs))
      → T (all_above_key k (deleted_of (entries_of (rank j t) j f ++ zs)))
  one_above k j (effect.Ins row) zs h a = a
  one_above k j effect.Del zs h a = both (is_lt (key_cmp k j)) _ h a
  one_above k j (effect.Mod cells) zs h a = subst (λ ks. T (all_above_key k ks)) (sym (no_deleted_cells (rank j t) cells zs)) a
  one_above k j (effect.Rep row) zs h a = both (is_lt (key_cmp k j)) _ h a

  deleted_above : (k : Key) (x : Effects) → T (below_all key_cmp k x) → T (all_above_key k (deleted_of (canonical_entries t x)))
  deleted_above k [] h = tt
  deleted_above k (e ∷ x) h = grind (arith, common_steps, deleted_above k x (second (is_lt (key_cmp k e.0)) _ h), one_above, first, second)

  one_more : (k : Key) (f : Effect) (zs : List Entry) → T (all_above_key k (deleted_of zs)) → T (keys_ascend (deleted_of zs))
      → T (keys_ascend (deleted_of (entries_of (rank k t) k f ++ zs)))
  one_more k (effect.Ins row) zs a h = h
  one_more k effect.Del zs a h = both (all_above_key k (deleted_of zs)) _ a h
  one_more k (effect.Mod cells) zs a h = subst (λ ks. T (keys_ascend ks)) (sym (no_deleted_cells (rank k t) cells zs)) h
  one_more k (effect.Rep row) zs a h = both (all_above_key k (deleted_of zs)) _ a h

  pub deletes_ascend-canonical_entries : (x : Effects) → T (is_sorted key_cmp x) → T (deletes_ascend (canonical_entries t x))
  deletes_ascend-canonical_entries [] h = tt
  deletes_ascend-canonical_entries (e ∷ x) h =
      one_more e.0 e.1 (canonical_entries t x) (deleted_above e.0 x (first (below_all key_cmp e.0 x) (is_sorted key_cmp x) h))
      (deletes_ascend-canonical_entries x (second (below_all key_cmp e.0 x) (is_sorted key_cmp x) h))
