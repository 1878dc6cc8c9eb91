-- Each write changes the tree's entries as its effects change.
use Rattle.std.proofs.Common.{◌≡◌, ◌≢◌, ℕ, ◌<◌, ◌≤◌, Bool, true, false, cond, not, ◌&&◌, T, Option, Some, None, is_some, List, [], ◌∷◌, ◌++◌, map, filter, set, Ordering, Less, Equal, Greater, is_lt, is_eq, nat_cmp, refl, sym, ap, ◌∙◌, subst, arith, rules}
use Rattle.std.specs.Prelude.{◌==◌}
use Rattle.std.proofs.lemmas.Bool.Decides.{nat_tests}
use Rattle.std.proofs.lemmas.List.Elements.{filter-append}
use Rattle.std.proofs.lemmas.List.{map-append}
use Rattle.std.specs.Ordering.{eq_by_cmp, ordering_then}
use Rattle.std.specs.List.{list_all}
use Rattle.std.specs.Cmp.{tied_itself}
use Rattle.std.specs.FinMap.Entries.{by_order, below_all}
use Rattle.values.specs.Orders.{key_cmp, key_cmp_total, key_cmp-IsAntisymmetric}
use Rattle.values.specs.declared.row.Row.{Row}
use Rattle.values.specs.declared.row.Key.{Key}
use Rattle.values.specs.declared.value.Value.{Value}
use Rattle.model.specs.declared.entry.Entry.{Entry}
use Rattle.model.specs.declared.entry.Change.{Change}
use Rattle.model.specs.declared.entry.Change.TheVariants.{Ins, Del, Mod}
use Rattle.model.specs.Maps.{find, put, is_sorted, without, store}
use Rattle.model.specs.Table.{Table, row_at, rank}
use Rattle.values.specs.Shape.{key_of}
use Rattle.model.specs.Effects.{Cells, Effects, is_keyed_effect, fits}
use Rattle.model.specs.declared.effect.Effect.{Effect}
use Rattle.model.specs.declared.effect.Effect.TheVariants as effect
use Rattle.model.specs.Entries.{entry_at, is_modify, entries_of, canonical_entries, change_cmp, entry_cmp}
use Rattle.model.specs.Edits.{put_entry, is_insert_of, change_with_cell, put_ins, put_mod, put_del, take_ins, set_ins}
use Rattle.model.proofs.MapsLemmas.{both, first, second, less, turn_less, turn_greater, find_below, below_less, find_past, store_past, without_below, same_key, cmp_greater}
use Rattle.model.proofs.RebasingLemmas.{is_placed, rank-le, rank-lt}
use Rattle.std.proofs.lemmas.Grind.{common_steps}

-- ---- one key's entries, in the list of all

abbrev pub maybe_entries : ℕ → Key → Option Effect → List Entry
maybe_entries n k None = []
maybe_entries n k (Some f) = entries_of n k f

put_at : (k : Key) (f : Effect) (es : Effects) → T (below_all key_cmp k es) → put key_cmp k f es ≡ (k, f) ∷ es
put_at k f [] h = refl
put_at k f (e ∷ es) h = ap (λ r. by_order r ((k, f) ∷ e ∷ es) ((e.0, f) ∷ es) (e ∷ put key_cmp k f es)) (less _ (first _ _ h))

module _ (key_cols : ℕ) (t : Table) where
  abbrev are_lawful : Effects → Bool
  are_lawful es = list_all (λ e. is_keyed_effect key_cols e.0 e.1 && fits (row_at t e.0) e.1) es

  -- a change of the list that leaves the entries of smaller keys
  abbrev IsPast : Key → (List Entry → List Entry) → Type 0
  IsPast k op =
      (j : Key) (g : Effect) (zs : List Entry) → key_cmp j k ≡ Less → T (is_keyed_effect key_cols j g) → T (fits (row_at t j) g)
      → op (entries_of (rank j t) j g ++ zs) ≡ entries_of (rank j t) j g ++ op zs

  -- and makes the new entries of the old ones at its key
  abbrev IsHere : Key → (List Entry → List Entry) → Option Effect → Option Effect → Type 0
  IsHere k op old new =
      (es : Effects) → T (below_all key_cmp k es) → T (are_lawful es)
      → op (maybe_entries (rank k t) k old ++ canonical_entries t es) ≡ maybe_entries (rank k t) k new ++ canonical_entries t es

  store_first : (k : Key) (new : Option Effect) (es : Effects) → T (below_all key_cmp k es)
      → canonical_entries t (store key_cmp k new es) ≡ maybe_entries (rank k t) k new ++ canonical_entries t es
  store_first k None es h = ap (canonical_entries t) (without_below key_cmp_total k es h)
  store_first k (Some f) es h = ap (canonical_entries t) (put_at k f es h)

  equal_case : (k : Key) (op : List Entry → List Entry) (new : Option Effect) (g : Effect) (es : Effects)
      → T (below_all key_cmp k es) → T (are_lawful es) → IsHere k op (Some g) new
      → canonical_entries t (store key_cmp k new ((k, g) ∷ es)) ≡ op (canonical_entries t ((k, g) ∷ es))
  equal_case k op None g es h l here =
      ap (λ r. canonical_entries t (cond (not (is_eq r)) ((k, g) ∷ without key_cmp k es) (without key_cmp k es)))
      (tied_itself key_cmp_total k)
      ∙ ap (canonical_entries t) (without_below key_cmp_total k es h) ∙ sym (here es h l)
  equal_case k op (Some f) g es h l here =
      ap (λ r. canonical_entries t (by_order r ((k, f) ∷ (k, g) ∷ es) ((k, f) ∷ es) ((k, g) ∷ put key_cmp k f es)))
      (tied_itself key_cmp_total k)
      ∙ sym (here es h l)

  -- so it changes the entries as the effects are changed at the key
  pub edited : (k : Key) (op : List Entry → List Entry) (new : Option Effect) (es : Effects) (old : Option Effect)
      → find key_cmp k es ≡ old → T (is_sorted key_cmp es) → T (are_lawful es) → IsPast k op → IsHere k op old new
      → canonical_entries t (store key_cmp k new es) ≡ op (canonical_entries t es)
  edited k op new [] None is h l past here = store_first k new [] tt ∙ sym (here [] tt tt)
  edited k op new [] (Some f) is h l past here = cc
  edited k op new (e ∷ es) old is h l past here =
      elim (key_cmp k e.0) as
      (λ r. key_cmp k e.0 ≡ r → canonical_entries t (store key_cmp k new (e ∷ es)) ≡ op (canonical_entries t (e ∷ es))) [
        | Less ↦ λ p.
            let below : T (below_all key_cmp k (e ∷ es)) =
            both _ _ (subst (λ r. T (is_lt r)) (sym p) tt) (below_less key_cmp_total k e.0 es p (first _ _ h)) in
            let none = sym is ∙ find_below key_cmp_total k (e ∷ es) below in
            store_first k new (e ∷ es) below ∙ sym (subst (λ o. IsHere k op o new) none here (e ∷ es) below l)
        | Equal ↦ λ p.
            let same = key_cmp-IsAntisymmetric k e.0 p in
            let found = sym is ∙ ap (λ r. cond (is_eq r) (Some e.1) (find key_cmp k es)) p in
            subst (λ j. canonical_entries t (store key_cmp k new ((j, e.1) ∷ es)) ≡ op (canonical_entries t ((j, e.1) ∷ es))) same
            (equal_case k op new e.1 es (subst (λ j. T (below_all key_cmp j es)) (sym same) (first _ _ h)) (second _ _ l)
            (subst (λ o. IsHere k op o new) found here))
        | Greater ↦ λ p.
            let lawful : T (is_keyed_effect key_cols e.0 e.1 && fits (row_at t e.0) e.1) = first _ _ l in
            ap (canonical_entries t) (store_past key_cmp k new e es p)
            ∙ ap (λ zs. entries_of (rank e.0 t) e.0 e.1 ++ zs)
            (edited k op new es old (sym (find_past key_cmp k e es p) ∙ is) (second _ _ h) (second _ _ l) past here)
            ∙ sym (past e.0 e.1 (canonical_entries t es) (turn_greater key_cmp_total k e.0 p)
            (first (is_keyed_effect key_cols e.0 e.1) _ lawful) (second (is_keyed_effect key_cols e.0 e.1) _ lawful))
      ] refl

  -- ---- entries of different keys

  keys_in_order : (j k : Key) (row other : Row) → T (eq_by_cmp key_cmp j (key_of key_cols row))
      → T (eq_by_cmp key_cmp k (key_of key_cols other)) → key_cmp (key_of key_cols row) (key_of key_cols other) ≡ key_cmp j k
  keys_in_order j k row other p q = grind (arith, common_steps, same_key)

  cmp_less : (x y : ℕ) → x < y → nat_cmp x y ≡ Less
  cmp_less x y h = search rules

  at_least : (x y : ℕ) (o : Ordering) → x ≤ y → o ≡ Less → ordering_then (nat_cmp x y) o ≡ Less
  at_least x y o h is = search rules

  at_most : (x y : ℕ) (o : Ordering) → y ≤ x → o ≡ Greater → ordering_then (nat_cmp x y) o ≡ Greater
  at_most x y o h is = search rules

  -- an entry of a smaller key stands before one of a greater key
  pub entry-less : (j k : Key) (y c : Change) → key_cmp j k ≡ Less → T (is_placed key_cols t j y) → T (is_placed key_cols t k c)
      → entry_cmp key_cols (entry_at (rank j t) y) (entry_at (rank k t) c) ≡ Less
  entry-less j k (Ins row) (Ins other) p hy hc = at_least (rank j t) (rank k t) _ (rank-le j k t p) (keys_in_order j k row other hy hc ∙ p)
  entry-less j k (Ins row) (Del key) p hy hc = at_least (rank j t) (rank k t) _ (rank-le j k t p) refl
  entry-less j k (Ins row) (Mod col value) p hy hc = at_least (rank j t) (rank k t) _ (rank-le j k t p) refl
  entry-less j k (Del key) c p hy hc = grind (arith, common_steps, cmp_less, rank-lt)
  entry-less j k (Mod col value) c p hy hc = grind (arith, common_steps, cmp_less, rank-lt)

  pub entry-greater : (j k : Key) (y c : Change) → key_cmp j k ≡ Less → T (is_placed key_cols t j y)
      → T (is_placed key_cols t k c) → entry_cmp key_cols (entry_at (rank k t) c) (entry_at (rank j t) y) ≡ Greater
  entry-greater j k (Ins row) (Ins other) p hy hc =
      at_most (rank k t) (rank j t) _ (rank-le j k t p) (keys_in_order k j other row hc hy ∙ turn_less key_cmp_total j k p)
  entry-greater j k (Ins row) (Del key) p hy hc = at_most (rank k t) (rank j t) _ (rank-le j k t p) refl
  entry-greater j k (Ins row) (Mod col value) p hy hc = at_most (rank k t) (rank j t) _ (rank-le j k t p) refl
  entry-greater j k (Del key) c p hy hc =
      ap (λ r. ordering_then r (change_cmp key_cols c (Del key))) (cmp_greater (rank k t) (rank j t) (rank-lt j k t p hy))
  entry-greater j k (Mod col value) c p hy hc =
      ap (λ r. ordering_then r (change_cmp key_cols c (Mod col value))) (cmp_greater (rank k t) (rank j t) (rank-lt j k t p hy))

  -- ---- an entry that is put in

  module _ (k : Key) (c : Change) (hc : T (is_placed key_cols t k c)) where
    abbrev e : Entry
    e = entry_at (rank k t) c

    past_one : (j : Key) (y : Change) (zs : List Entry) → key_cmp j k ≡ Less → T (is_placed key_cols t j y)
        → put_entry key_cols e (entry_at (rank j t) y ∷ zs) ≡ entry_at (rank j t) y ∷ put_entry key_cols e zs
    past_one j y zs p hy = grind (arith, common_steps, entry-greater)

    past_cells : (j : Key) (cells : Cells) (zs : List Entry) → key_cmp j k ≡ Less → T (is_some (row_at t j))
        → put_entry key_cols e (map (λ x. entry_at (rank j t) (Mod x.0 x.1)) cells ++ zs)
        ≡ map (λ x. entry_at (rank j t) (Mod x.0 x.1)) cells ++ put_entry key_cols e zs
    past_cells j [] zs p hy = refl
    past_cells j (x ∷ cells) zs p hy = grind (arith, common_steps, past_cells j cells zs p hy, past_one)

    pub put-past : IsPast k (put_entry key_cols e)
    put-past j (effect.Ins row) zs p he hf = past_one j (Ins row) zs p he
    put-past j effect.Del zs p he hf = past_one j (Del j) zs p hf
    put-past j (effect.Mod cells) zs p he hf = past_cells j cells zs p hf
    put-past j (effect.Rep row) zs p he hf = grind (arith, common_steps, past_one)

    -- before the entries of greater keys
    before_one : (j : Key) (y : Change) (zs : List Entry) → key_cmp k j ≡ Less → T (is_placed key_cols t j y)
        → put_entry key_cols e (entry_at (rank j t) y ∷ zs) ≡ e ∷ entry_at (rank j t) y ∷ zs
    before_one j y zs p hy = grind (arith, common_steps, entry-less)

    before_effect : (j : Key) (f : Effect) (zs : List Entry) → key_cmp k j ≡ Less → T (is_keyed_effect key_cols j f)
        → T (fits (row_at t j) f) → put_entry key_cols e (entries_of (rank j t) j f ++ zs) ≡ e ∷ (entries_of (rank j t) j f ++ zs)
    before_effect j (effect.Ins row) zs p he hf = before_one j (Ins row) zs p he
    before_effect j effect.Del zs p he hf = before_one j (Del j) zs p hf
    before_effect j (effect.Mod []) zs p he hf = absurd he
    before_effect j (effect.Mod (x ∷ cells)) zs p he hf =
        before_one j (Mod x.0 x.1) (map (λ x. entry_at (rank j t) (Mod x.0 x.1)) cells ++ zs) p hf
    before_effect j (effect.Rep row) zs p he hf = before_one j (Ins row) (entry_at (rank j t) (Del j) ∷ zs) p he

    pub put-before : (es : Effects) → T (below_all key_cmp k es) → T (are_lawful es)
        → put_entry key_cols e (canonical_entries t es) ≡ e ∷ canonical_entries t es
    put-before [] h l = refl
    put-before (x ∷ es) h l = grind (arith, common_steps, first, before_effect, less, second)

  -- ---- inserts taken out or changed

  and_false : (b c : Bool) → c ≡ false → (b && c) ≡ false
  and_false true c h = h
  and_false false c h = refl

  same_number : (n : ℕ) → (n == n) ≡ true
  same_number n = grind (arith, nat_tests)

  other_number : (n m : ℕ) → n ≢ m → (n == m) ≡ false
  other_number n m h = grind (arith, nat_tests)

  module _ (k : Key) where
    abbrev is_it : Entry → Bool
    is_it e = (e.sid == rank k t) && is_insert_of key_cols k e.change

    -- no other key's insert is it
    not_it : (j : Key) (n : ℕ) (c : Change) → eq_by_cmp key_cmp k j ≡ false → T (is_placed key_cols t j c) → is_it (entry_at n c) ≡ false
    not_it j n (Ins row) h hc =
        and_false (n == rank k t) (eq_by_cmp key_cmp k (key_of key_cols row))
        (ap (λ i. eq_by_cmp key_cmp k i) (sym (same_key j (key_of key_cols row) hc)) ∙ h)
    not_it j n (Del key) h hc = and_false (n == rank k t) false refl
    not_it j n (Mod col value) h hc = and_false (n == rank k t) false refl

    its_own : (row : Row) → T (eq_by_cmp key_cmp k (key_of key_cols row)) → is_it (entry_at (rank k t) (Ins row)) ≡ true
    its_own row h = search rules

    -- a change of the entries that are it leaves those that aren't
    module _ (op : List Entry → List Entry) (joins : (ys zs : List Entry) → op (ys ++ zs) ≡ op ys ++ op zs) (nothing : op [] ≡ [])
        (skips : (e : Entry) (es : List Entry) → is_it e ≡ false → op (e ∷ es) ≡ e ∷ op es) where
      other_cells : (j : Key) (n : ℕ) (cells : Cells) → eq_by_cmp key_cmp k j ≡ false → T (is_some (row_at t j))
          → op (map (λ x. entry_at n (Mod x.0 x.1)) cells) ≡ map (λ x. entry_at n (Mod x.0 x.1)) cells
      other_cells j n [] h hf = nothing
      other_cells j n (x ∷ cells) h hf = grind (arith, common_steps, other_cells j n cells h hf, not_it)

      other_effect : (j : Key) (g : Effect) (n : ℕ) → eq_by_cmp key_cmp k j ≡ false → T (is_keyed_effect key_cols j g)
          → T (fits (row_at t j) g) → op (entries_of n j g) ≡ entries_of n j g
      other_effect j (effect.Ins row) n h he hf =
          skips (entry_at n (Ins row)) [] (not_it j n (Ins row) h he) ∙ ap (λ es. entry_at n (Ins row) ∷ es) nothing
      other_effect j effect.Del n h he hf =
          skips (entry_at n (Del j)) [] (not_it j n (Del j) h hf) ∙ ap (λ es. entry_at n (Del j) ∷ es) nothing
      other_effect j (effect.Mod cells) n h he hf = other_cells j n cells h hf
      other_effect j (effect.Rep row) n h he hf =
          skips (entry_at n (Ins row)) (entry_at n (Del j) ∷ []) (not_it j n (Ins row) h he)
          ∙ ap (λ es. entry_at n (Ins row) ∷ es)
          (skips (entry_at n (Del j)) [] (not_it j n (Del j) h hf) ∙ ap (λ es. entry_at n (Del j) ∷ es) nothing)

      it-past : IsPast k op
      it-past j g zs p he hf =
          joins (entries_of (rank j t) j g) zs
          ∙ ap (λ ys. ys ++ op zs) (other_effect j g (rank j t) (ap is_eq (turn_less key_cmp_total j k p)) he hf)

      it-rest : (es : Effects) → T (below_all key_cmp k es) → T (are_lawful es) → op (canonical_entries t es) ≡ canonical_entries t es
      it-rest [] h l = nothing
      it-rest (x ∷ es) h l =
          let lawful : T (is_keyed_effect key_cols x.0 x.1 && fits (row_at t x.0) x.1) = first _ _ l in
          let head =
          other_effect x.0 x.1 (rank x.0 t) (ap is_eq (less _ (first _ _ h)))
          (first (is_keyed_effect key_cols x.0 x.1) _ lawful) (second (is_keyed_effect key_cols x.0 x.1) _ lawful) in
          let rest = it-rest es (second _ _ h) (second _ _ l) in
          joins (entries_of (rank x.0 t) x.0 x.1) (canonical_entries t es) ∙ λ i. head i ++ rest i

    abbrev take : List Entry → List Entry
    take es = take_ins key_cols (rank k t) k es

    take-skips : (e : Entry) (es : List Entry) → is_it e ≡ false → take (e ∷ es) ≡ e ∷ take es
    take-skips e es h = ap (λ b. cond (not b) (e ∷ take es) (take es)) h

    take-takes : (e : Entry) (es : List Entry) → is_it e ≡ true → take (e ∷ es) ≡ take es
    take-takes e es h = ap (λ b. cond (not b) (e ∷ take es) (take es)) h

    take-rest : (es : Effects) → T (below_all key_cmp k es) → T (are_lawful es) → take (canonical_entries t es) ≡ canonical_entries t es
    take-rest es h l = it-rest take (filter-append (λ e. not (is_it e))) refl take-skips es h l

    pub take-past : IsPast k take
    take-past = it-past take (filter-append (λ e. not (is_it e))) refl take-skips

    -- an inserted row that is deleted goes away
    pub take-inserted : (row : Row) → T (is_keyed_effect key_cols k (effect.Ins row)) → IsHere k take (Some (effect.Ins row)) None
    take-inserted row he es h l = take-takes (entry_at (rank k t) (Ins row)) (canonical_entries t es) (its_own row he) ∙ take-rest es h l

    -- of a replaced row that is deleted the delete stays
    pub take-replaced : (row : Row) → T (is_keyed_effect key_cols k (effect.Rep row))
        → IsHere k take (Some (effect.Rep row)) (Some effect.Del)
    take-replaced row he es h l = grind (arith, common_steps, take-takes, its_own, take-skips, and_false, take-rest)

    module _ (col : ℕ) (value : Value) where
      abbrev change : List Entry → List Entry
      change es = set_ins key_cols (rank k t) k col value es

      change-skips : (e : Entry) (es : List Entry) → is_it e ≡ false → change (e ∷ es) ≡ e ∷ change es
      change-skips e es h = ap (λ b. cond b (entry_at e.sid (change_with_cell col value e.change)) e ∷ change es) h

      change-changes : (row : Row) (es : List Entry) → T (eq_by_cmp key_cmp k (key_of key_cols row))
          → change (entry_at (rank k t) (Ins row) ∷ es) ≡ entry_at (rank k t) (Ins (set row col value)) ∷ change es
      change-changes row es h = search rules

      change-joins : (ys zs : List Entry) → change (ys ++ zs) ≡ change ys ++ change zs
      change-joins ys zs = map-append (λ e. cond (is_it e) (entry_at e.sid (change_with_cell col value e.change)) e) ys zs

      change-rest : (es : Effects) → T (below_all key_cmp k es) → T (are_lawful es)
          → change (canonical_entries t es) ≡ canonical_entries t es
      change-rest es h l = it-rest change change-joins refl change-skips es h l

      pub change-past : IsPast k change
      change-past = it-past change change-joins refl change-skips

      pub change-inserted : (row : Row) → T (is_keyed_effect key_cols k (effect.Ins row))
          → IsHere k change (Some (effect.Ins row)) (Some (effect.Ins (set row col value)))
      change-inserted row he es h l = grind (arith, common_steps, change-changes, change-rest)

      pub change-replaced : (row : Row) → T (is_keyed_effect key_cols k (effect.Rep row))
          → IsHere k change (Some (effect.Rep row)) (Some (effect.Rep (set row col value)))
      change-replaced row he es h l = grind (arith, common_steps, change-changes, change-skips, and_false, change-rest)

    -- ---- modifies dropped, and inserts, deletes and modifies put in

    module _ (there : T (is_some (row_at t k))) where
      abbrev drop : List Entry → List Entry
      drop es = filter (λ e. not ((e.sid == rank k t) && is_modify e.change)) es

      drop-skips : (e : Entry) (es : List Entry) → ((e.sid == rank k t) && is_modify e.change) ≡ false → drop (e ∷ es) ≡ e ∷ drop es
      drop-skips e es h = ap (λ b. cond (not b) (e ∷ drop es) (drop es)) h

      apart_cells : (j : Key) (cells : Cells) → rank j t ≢ rank k t
          → drop (map (λ x. entry_at (rank j t) (Mod x.0 x.1)) cells) ≡ map (λ x. entry_at (rank j t) (Mod x.0 x.1)) cells
      apart_cells j [] ne = refl
      apart_cells j (x ∷ cells) ne = grind (arith, common_steps, apart_cells j cells ne, drop-skips, other_number)

      apart_effect : (j : Key) (g : Effect) → (T (is_some (row_at t j)) → rank j t ≢ rank k t) → T (fits (row_at t j) g)
          → drop (entries_of (rank j t) j g) ≡ entries_of (rank j t) j g
      apart_effect j (effect.Ins row) ne hf = drop-skips (entry_at (rank j t) (Ins row)) [] (and_false (rank j t == rank k t) false refl)
      apart_effect j effect.Del ne hf = drop-skips (entry_at (rank j t) (Del j)) [] (and_false (rank j t == rank k t) false refl)
      apart_effect j (effect.Mod cells) ne hf = apart_cells j cells (ne hf)
      apart_effect j (effect.Rep row) ne hf = search rules

      drop-joins : (ys zs : List Entry) → drop (ys ++ zs) ≡ drop ys ++ drop zs
      drop-joins ys zs = filter-append (λ e. not ((e.sid == rank k t) && is_modify e.change)) ys zs

      lt_ne : (n m : ℕ) → n < m → n ≢ m
      lt_ne n m h e = omega arith

      gt_ne : (n m : ℕ) → m < n → n ≢ m
      gt_ne n m h e = omega arith

      drop-past : IsPast k drop
      drop-past j g zs p he hf = grind (arith, common_steps, drop-joins, apart_effect, lt_ne, rank-lt)

      drop-rest : (es : Effects) → T (below_all key_cmp k es) → T (are_lawful es) → drop (canonical_entries t es) ≡ canonical_entries t es
      drop-rest [] h l = refl
      drop-rest (x ∷ es) h l =
          let lawful : T (is_keyed_effect key_cols x.0 x.1 && fits (row_at t x.0) x.1) = first _ _ l in
          let head =
          apart_effect x.0 x.1 (λ hj. gt_ne (rank x.0 t) (rank k t) (rank-lt k x.0 t (less _ (first _ _ h)) there))
          (second (is_keyed_effect key_cols x.0 x.1) _ lawful) in
          let rest = drop-rest es (second _ _ h) (second _ _ l) in
          drop-joins (entries_of (rank x.0 t) x.0 x.1) (canonical_entries t es) ∙ λ i. head i ++ rest i

      drop-cells : (cells : Cells) (zs : List Entry) → drop (map (λ x. entry_at (rank k t) (Mod x.0 x.1)) cells ++ zs) ≡ drop zs
      drop-cells [] zs = refl
      drop-cells (x ∷ cells) zs = grind (arith, common_steps, drop-cells cells zs, same_number)

      pub delete-past : IsPast k (put_del key_cols (rank k t) k)
      delete-past j g zs p he hf =
          ap (put_entry key_cols (entry_at (rank k t) (Del k))) (drop-past j g zs p he hf)
          ∙ put-past k (Del k) there j g (drop zs) p he hf

      pub delete-row : IsHere k (put_del key_cols (rank k t) k) None (Some effect.Del)
      delete-row es h l = ap (put_entry key_cols (entry_at (rank k t) (Del k))) (drop-rest es h l) ∙ put-before k (Del k) there es h l

      pub delete-modified : (cells : Cells) → IsHere k (put_del key_cols (rank k t) k) (Some (effect.Mod cells)) (Some effect.Del)
      delete-modified cells es h l =
          ap (put_entry key_cols (entry_at (rank k t) (Del k))) (drop-cells cells (canonical_entries t es) ∙ drop-rest es h l)
          ∙ put-before k (Del k) there es h l

      module _ (col : ℕ) (value : Value) where
        pub modify-past : IsPast k (put_mod key_cols (rank k t) col value)
        modify-past = put-past k (Mod col value) there

        pub modify-row : IsHere k (put_mod key_cols (rank k t) col value) None (Some (effect.Mod ((col, value) ∷ [])))
        modify-row es h l = put-before k (Mod col value) there es h l

        cells_put : (cells : Cells) (es : Effects) → T (below_all key_cmp k es) → T (are_lawful es)
            → put_mod key_cols (rank k t) col value (map (λ x. entry_at (rank k t) (Mod x.0 x.1)) cells ++ canonical_entries t es)
            ≡ map (λ x. entry_at (rank k t) (Mod x.0 x.1)) (put nat_cmp col value cells) ++ canonical_entries t es
        cells_put [] es h l = put-before k (Mod col value) there es h l
        cells_put (x ∷ cells) es h l = grind (arith, common_steps, cells_put cells es h l, nat_cmp)

        pub modify-modified : (cells : Cells) → IsHere k (put_mod key_cols (rank k t) col value) (Some (effect.Mod cells))
            (Some (effect.Mod (put nat_cmp col value cells)))
        modify-modified cells es h l = cells_put cells es h l

    module _ (row : Row) (keyed : T (eq_by_cmp key_cmp k (key_of key_cols row))) where
      pub insert-past : IsPast k (put_ins key_cols (rank k t) row)
      insert-past = put-past k (Ins row) keyed

      pub insert-row : IsHere k (put_ins key_cols (rank k t) row) None (Some (effect.Ins row))
      insert-row es h l = put-before k (Ins row) keyed es h l

      pub insert-deleted : IsHere k (put_ins key_cols (rank k t) row) (Some effect.Del) (Some (effect.Rep row))
      insert-deleted es h l = search rules
