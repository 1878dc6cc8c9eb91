-- The walk over two trees gives the entries of the composed effects.
use Rattle.std.proofs.Common.{◌≡◌, ℕ, suc, ◌+◌, ◌<◌, ◌≤◌, Bool, true, false, cond, not, T, Option, Some, None, List, [], ◌∷◌, ◌++◌, Ordering, Less, Equal, Greater, is_lt, is_eq, is_gt, refl, sym, ap, ◌∙◌, subst, arith, rules}
use Rattle.std.specs.Ordering.{eq_by_cmp}
use Rattle.std.specs.List.{list_all}
use Rattle.std.specs.Cmp.{IsTotalOrder, tied_itself}
use Rattle.std.specs.FinMap.Entries.{by_order, below_all}
use Rattle.values.specs.Orders.{key_cmp, key_cmp_total, key_cmp-IsAntisymmetric}
use Rattle.values.specs.declared.row.Row.{Row}
use Rattle.values.specs.declared.row.Key.{Key}
use Rattle.model.specs.declared.entry.Entry.{Entry}
use Rattle.model.specs.declared.entry.Change.{Change}
use Rattle.model.specs.declared.entry.Change.TheVariants.{Ins, Del, Mod}
use Rattle.model.specs.Maps.{find, put, is_sorted, without, store, alter, alter_all}
use Rattle.model.specs.Table.{Table, row_at, rank}
use Rattle.values.specs.Shape.{key_of}
use Rattle.model.specs.Effects.{set_cells, Effects, is_keyed_effect, fits, all_fit, row_after, table_with}
use Rattle.model.specs.Composition.{over_cells, composed_effect, composed_effects}
use Rattle.model.specs.declared.effect.Effect.{Effect}
use Rattle.model.specs.declared.effect.Effect.TheVariants as effect
use Rattle.model.specs.Entries.{entry_at, entries_of, canonical_entries}
use Rattle.model.specs.Folding.{Upper, Lower, changes_meet, meet, fold_from, folded_entries}
use Rattle.model.proofs.MapsLemmas.{both, first, second, less, turn_greater, below_head, below_less, find_below, alter_all_past, find_first, changed_by, equal}
use Rattle.model.proofs.MergingLemmas.{all_after, canonical_entries_from, canonical_entries_from_zero, canonical_entries_from_past, canonical_entries_from_after, rank_below, put_below, all_fit_past, found_here, canon_here, apply_here, apply_deleted}
use Rattle.model.proofs.CompositionLemmas.{cells_ascend, row_at-table_with}
use Rattle.model.proofs.FoldingSteps.{met, lowered_here, upper_first, lower_first, upper_here, neither_here, mods, mods_upper, mods_lower, mods_deleted, mods_after_insert, mods_into, mods_merged}
use Rattle.std.proofs.lemmas.Grind.{common_steps}

-- ---- maps changed above a key

module _ {K X : Type 0} {R : K → K → Ordering} (o : IsTotalOrder R) where
  below_without : (x k : K) (m : List (K × X)) → T (below_all R x m) → T (below_all R x (without R k m))
  below_without x k [] h = tt
  below_without x k (e ∷ m) h =
      elim (not (eq_by_cmp R k e.0)) as (λ b. T (below_all R x (cond b (e ∷ without R k m) (without R k m)))) [
        | true ↦ both _ _ (first _ _ h) (below_without x k m (second _ _ h))
        | false ↦ below_without x k m (second _ _ h)
      ]

  below_put : (x k : K) (v : X) (m : List (K × X)) → T (is_lt (R x k)) → T (below_all R x m) → T (below_all R x (put R k v m))
  below_put x k v [] p h = both _ _ p tt
  below_put x k v (e ∷ m) p h =
      elim (R k e.0) as (λ r. T (below_all R x (by_order r ((k, v) ∷ e ∷ m) ((e.0, v) ∷ m) (e ∷ put R k v m)))) [
        | Less ↦ both _ _ p h
        | Equal ↦ h
        | Greater ↦ both _ _ (first _ _ h) (below_put x k v m p (second _ _ h))
      ]

  below_store : (x k : K) (v : Option X) (m : List (K × X)) → T (is_lt (R x k)) → T (below_all R x m) → T (below_all R x (store R k v m))
  below_store x k None m p h = below_without x k m h
  below_store x k (Some v) m p h = below_put x k v m p h

  pub below_alter_all : {F : Type 0} (change : F → Option X → Option X) (x : K) (es : List (K × F)) (m : List (K × X))
      → T (below_all R x es) → T (below_all R x m) → T (below_all R x (alter_all R change es m))
  below_alter_all change x [] m h g = g
  below_alter_all change x (e ∷ es) m h g =
      below_alter_all change x es (alter R e.0 (change e.1) m) (second _ _ h)
      (below_store x e.0 (change e.1 (find R e.0 m)) m (first _ _ h) g)

below_apply : (k : Key) (t : Table) (x : Effects) → T (below_all key_cmp k t) → T (below_all key_cmp k x)
    → T (below_all key_cmp k (table_with t x))
below_apply k t x bt bx = below_alter_all key_cmp_total row_after k x t bx bt

below_compose : (k : Key) (x f : Effects) → T (below_all key_cmp k x) → T (below_all key_cmp k f)
    → T (below_all key_cmp k (composed_effects x f))
below_compose k x f bx bf = below_alter_all key_cmp_total composed_effect k f x bf bx

put_first : (k : Key) (f : Effect) (x : Effects) → T (below_all key_cmp k x) → put key_cmp k f x ≡ (k, f) ∷ x
put_first k f [] h = refl
put_first k f (e ∷ x) h = ap (λ r. by_order r ((k, f) ∷ e ∷ x) ((e.0, f) ∷ x) (e ∷ put key_cmp k f x)) (less _ (first _ _ h))

compose_first : (k : Key) (f : Effect) (x fs : Effects) → T (below_all key_cmp k x) → T (below_all key_cmp k fs)
    → composed_effects x ((k, f) ∷ fs) ≡ (k, f) ∷ composed_effects x fs
compose_first k f x fs bx bf =
    ap (λ old. alter_all key_cmp composed_effect fs (store key_cmp k (composed_effect f old) x)) (find_below key_cmp_total k x bx)
    ∙ ap (alter_all key_cmp composed_effect fs) (put_first k f x bx)
    ∙ alter_all_past key_cmp key_cmp_total composed_effect fs (k, f) x bf

compose_past : (k : Key) (g : Effect) (x fs : Effects) → T (below_all key_cmp k fs)
    → composed_effects ((k, g) ∷ x) fs ≡ (k, g) ∷ composed_effects x fs
compose_past k g x fs bf = alter_all_past key_cmp key_cmp_total composed_effect fs (k, g) x bf

-- the effect of a key that both have
module _ (k : Key) (g f : Effect) (x fs : Effects) (bx : T (below_all key_cmp k x)) (bf : T (below_all key_cmp k fs)) where
  tied : key_cmp k k ≡ Equal
  tied = tied_itself key_cmp_total k

  compose_kept : (h : Effect) → composed_effect f (Some g) ≡ Some h
      → composed_effects ((k, g) ∷ x) ((k, f) ∷ fs) ≡ (k, h) ∷ composed_effects x fs
  compose_kept h is =
      ap (λ r. alter_all key_cmp composed_effect fs
      (store key_cmp k (composed_effect f (cond (is_eq r) (Some g) (find key_cmp k x))) ((k, g) ∷ x))) tied
      ∙ ap (λ v. alter_all key_cmp composed_effect fs (store key_cmp k v ((k, g) ∷ x))) is
      ∙ ap (λ r. alter_all key_cmp composed_effect fs (by_order r ((k, h) ∷ (k, g) ∷ x) ((k, h) ∷ x) ((k, g) ∷ put key_cmp k h x))) tied
      ∙ alter_all_past key_cmp key_cmp_total composed_effect fs (k, h) x bf

  compose_gone : composed_effect f (Some g) ≡ None → composed_effects ((k, g) ∷ x) ((k, f) ∷ fs) ≡ composed_effects x fs
  compose_gone is =
      ap (λ r. alter_all key_cmp composed_effect fs
      (store key_cmp k (composed_effect f (cond (is_eq r) (Some g) (find key_cmp k x))) ((k, g) ∷ x))) tied
      ∙ ap (λ v. alter_all key_cmp composed_effect fs (store key_cmp k v ((k, g) ∷ x))) is
      ∙ ap (λ r. alter_all key_cmp composed_effect fs (cond (not (is_eq r)) ((k, g) ∷ without key_cmp k x) (without key_cmp k x))) tied
      ∙ ap (alter_all key_cmp composed_effect fs) (unfound x bx)
    where
      unfound : (m : Effects) → T (below_all key_cmp k m) → without key_cmp k m ≡ m
      unfound [] h = refl
      unfound (e ∷ m) h =
          ap (λ r. cond (not (is_eq r)) (e ∷ without key_cmp k m) (without key_cmp k m)) (less _ (first _ _ h))
          ∙ ap (λ es. e ∷ es) (unfound m (second _ _ h))

-- ---- entries and tables at the first key

canon_first : (n : ℕ) (t : Table) (k : Key) (f : Effect) (fs : Effects) → T (below_all key_cmp k t)
    → canonical_entries_from n t ((k, f) ∷ fs) ≡ entries_of n k f ++ canonical_entries_from n t fs
canon_first n t k f fs bt = grind (arith, common_steps, rank_below, canonical_entries_from)

apply_inserted : (t : Table) (k : Key) (row : Row) (x : Effects) → T (below_all key_cmp k t) → T (below_all key_cmp k x)
    → table_with t ((k, effect.Ins row) ∷ x) ≡ (k, row) ∷ table_with t x
apply_inserted t k row x bt bx =
    ap (alter_all key_cmp row_after x) (put_below k row t bt) ∙ alter_all_past key_cmp key_cmp_total row_after x (k, row) t bx

after_next : (n : ℕ) (t : Table) (x : Effects) → T (all_after n (canonical_entries_from (suc n) t x))
after_next n t x = let lt : n < suc n = omega arith in canonical_entries_from_after n (suc n) t x lt

le_sum : (n r : ℕ) → n ≤ n + r
le_sum n r = omega arith

module _ (key_cols : ℕ) where
  -- ---- which of two entries comes first

  meets_upper : (n n' a d m : ℕ) (c u : Change) → n' + d ≡ n + a → n ≤ m → changes_meet key_cols c u ≡ Upper
      → meet key_cols a d (entry_at m c) (entry_at n' u) ≡ Upper
  meets_upper n n' a d m c u level le is = search rules

  meets_lower : (n n' a d m : ℕ) (c u : Change) → n' + d ≡ n + a → n' ≤ m → changes_meet key_cols c u ≡ Lower
      → meet key_cols a d (entry_at n c) (entry_at m u) ≡ Lower
  meets_lower n n' a d m c u level le is = search rules

  abbrev is_keyed : Key → Row → Bool
  is_keyed k row = eq_by_cmp key_cmp k (key_of key_cols row)

  key_is : (k : Key) (row : Row) → T (is_keyed k row) → key_of key_cols row ≡ k
  key_is k row h = sym (key_cmp-IsAntisymmetric k (key_of key_cols row) (equal _ h))

  -- an insert of a key stands before the delete of a key that isn't smaller, and after that of a smaller one
  insert_meets_delete : (k g : Key) (new : Row) (r : Ordering) → T (is_keyed k new) → key_cmp k g ≡ r
      → changes_meet key_cols (Del g) (Ins new) ≡ cond (is_gt r) Lower Upper
  insert_meets_delete k g new r h is =
      ap (λ j. cond (is_gt (key_cmp j g)) Lower Upper) (key_is k new h) ∙ ap (λ q. cond (is_gt q) Lower Upper) is

  module _ (n n' a d : ℕ) (level : n' + d ≡ n + a) where
    -- an upper insert of a key below all of the lower effects'
    insert_first : (t : Table) (x : Effects) (k : Key) (new : Row) (us : List Entry) → T (is_keyed k new)
        → T (below_all key_cmp k x) → fold_from key_cols (canonical_entries_from n t x) a d (entry_at n' (Ins new) ∷ us)
        ≡ entry_at n (Ins new) ∷ fold_from key_cols (canonical_entries_from n t x) a d us
    insert_first t [] k new us h bx = upper_first key_cols n n' a d level [] tt (Ins new) us
    insert_first t (e ∷ x) k new us h bx = by_effect (insert_first t x k new us h (second _ _ bx)) e.1
      where
        one_entry : (c : Change) (ls : List Entry) → changes_meet key_cols c (Ins new) ≡ Upper
            → fold_from key_cols (entry_at (n + rank e.0 t) c ∷ ls) a d (entry_at n' (Ins new) ∷ us)
            ≡ entry_at n (Ins new) ∷ fold_from key_cols (entry_at (n + rank e.0 t) c ∷ ls) a d us
        one_entry c ls is =
            met key_cols Upper (entry_at (n + rank e.0 t) c) (fold_from key_cols ls) a d (entry_at n' (Ins new)) us
            (meets_upper n n' a d (n + rank e.0 t) c (Ins new) level (le_sum n (rank e.0 t)) is)
            ∙ ap (λ u. u ∷ fold_from key_cols (entry_at (n + rank e.0 t) c ∷ ls) a d us) (lowered_here key_cols n n' a d level (Ins new))

        by_effect : fold_from key_cols (canonical_entries_from n t x) a d (entry_at n' (Ins new) ∷ us)
            ≡ entry_at n (Ins new) ∷ fold_from key_cols (canonical_entries_from n t x) a d us
            → (g : Effect) → fold_from key_cols (entries_of (n + rank e.0 t) e.0 g ++ canonical_entries_from n t x) a d
            (entry_at n' (Ins new) ∷ us)
            ≡ entry_at n (Ins new)
            ∷ fold_from key_cols (entries_of (n + rank e.0 t) e.0 g ++ canonical_entries_from n t x) a d us
        by_effect rest (effect.Ins row) = one_entry (Ins row) (canonical_entries_from n t x) refl
        by_effect rest effect.Del =
            one_entry (Del e.0) (canonical_entries_from n t x) (insert_meets_delete k e.0 new Less h (less _ (first _ _ bx)))
        by_effect rest (effect.Mod []) = rest
        by_effect rest (effect.Mod (c ∷ cells)) = one_entry (Mod c.0 c.1) (mods (n + rank e.0 t) cells ++ canonical_entries_from n t x) refl
        by_effect rest (effect.Rep row) = one_entry (Ins row) (entry_at (n + rank e.0 t) (Del e.0) ∷ canonical_entries_from n t x) refl

    -- a lower delete of a key below all of the upper effects'
    delete_first : (u : Table) (fs : Effects) (g : Key) (ls : List Entry)
        → T (list_all (λ e. is_keyed_effect key_cols e.0 e.1) fs) → T (below_all key_cmp g fs)
        → fold_from key_cols (entry_at n (Del g) ∷ ls) a d (canonical_entries_from n' u fs)
        ≡ entry_at n (Del g) ∷ fold_from key_cols ls (a + 0) (d + 1) (canonical_entries_from n' u fs)
    delete_first u [] g ls h bf = refl
    delete_first u (e ∷ fs) g ls h bf = by_effect (delete_first u fs g ls (second _ _ h) (second _ _ bf)) e.1 (first _ _ h)
      where
        one_entry : (c : Change) (us : List Entry) → changes_meet key_cols (Del g) c ≡ Lower
            → fold_from key_cols (entry_at n (Del g) ∷ ls) a d (entry_at (n' + rank e.0 u) c ∷ us)
            ≡ entry_at n (Del g) ∷ fold_from key_cols ls (a + 0) (d + 1) (entry_at (n' + rank e.0 u) c ∷ us)
        one_entry c us is =
            met key_cols Lower (entry_at n (Del g)) (fold_from key_cols ls) a d (entry_at (n' + rank e.0 u) c) us
            (meets_lower n n' a d (n' + rank e.0 u) (Del g) c level (le_sum n' (rank e.0 u)) is)

        by_effect : fold_from key_cols (entry_at n (Del g) ∷ ls) a d (canonical_entries_from n' u fs)
            ≡ entry_at n (Del g) ∷ fold_from key_cols ls (a + 0) (d + 1) (canonical_entries_from n' u fs)
            → (f : Effect) → T (is_keyed_effect key_cols e.0 f) → fold_from key_cols (entry_at n (Del g) ∷ ls) a d
            (entries_of (n' + rank e.0 u) e.0 f ++ canonical_entries_from n' u fs)
            ≡ entry_at n (Del g) ∷ fold_from key_cols ls (a + 0) (d + 1)
            (entries_of (n' + rank e.0 u) e.0 f ++ canonical_entries_from n' u fs)
        by_effect rest (effect.Ins row) k =
            one_entry (Ins row) (canonical_entries_from n' u fs)
            (insert_meets_delete e.0 g row Greater k (below_head key_cmp_total g e fs bf))
        by_effect rest effect.Del k = one_entry (Del e.0) (canonical_entries_from n' u fs) refl
        by_effect rest (effect.Mod []) k = rest
        by_effect rest (effect.Mod (c ∷ cells)) k =
            one_entry (Mod c.0 c.1) (mods (n' + rank e.0 u) cells ++ canonical_entries_from n' u fs) refl
        by_effect rest (effect.Rep row) k =
            one_entry (Ins row) (entry_at (n' + rank e.0 u) (Del e.0) ∷ canonical_entries_from n' u fs)
            (insert_meets_delete e.0 g row Greater k (below_head key_cmp_total g e fs bf))

    -- all entries of an upper effect come before the lower ones
    effect_first : (k : Key) (f : Effect) (ls us : List Entry) → T (all_after n ls)
        → fold_from key_cols ls a d (entries_of n' k f ++ us) ≡ entries_of n k f ++ fold_from key_cols ls a d us
    effect_first k (effect.Ins row) ls us h = upper_first key_cols n n' a d level ls h (Ins row) us
    effect_first k effect.Del ls us h = upper_first key_cols n n' a d level ls h (Del k) us
    effect_first k (effect.Mod cells) ls us h = mods_upper key_cols n n' a d level cells ls us h
    effect_first k (effect.Rep row) ls us h = grind (arith, common_steps, upper_first)

  -- ---- the walk at the first key

  abbrev IsFolded : Table → Effects → Effects → ℕ → ℕ → ℕ → ℕ → Type 0
  IsFolded t x f n n' a d =
      fold_from key_cols (canonical_entries_from n t x) a d (canonical_entries_from n' (table_with t x) f)
      ≡ canonical_entries_from n t (composed_effects x f)

  -- wherever the upper tree and the counts stand
  abbrev AreFolded : Table → Effects → Effects → ℕ → Type 0
  AreFolded t x f n = (n' a d : ℕ) → n' + d ≡ n + a → IsFolded t x f n n' a d

  -- an upper insert before all else
  upper_insert : (n : ℕ) (t : Table) (x : Effects) (k : Key) (row : Row) (fs : Effects) → T (is_keyed k row)
      → T (below_all key_cmp k t) → T (below_all key_cmp k x) → T (below_all key_cmp k fs) → AreFolded t x fs n
      → AreFolded t x ((k, effect.Ins row) ∷ fs) n
  upper_insert n t x k row fs h bt bx bf rest n' a d level =
      ap (fold_from key_cols (canonical_entries_from n t x) a d)
      (canon_first n' (table_with t x) k (effect.Ins row) fs (below_apply k t x bt bx))
      ∙ insert_first n n' a d level t x k row (canonical_entries_from n' (table_with t x) fs) h bx
      ∙ ap (λ es. entry_at n (Ins row) ∷ es) (rest n' a d level)
      ∙ sym (ap (canonical_entries_from n t) (compose_first k (effect.Ins row) x fs bx bf)
      ∙ canon_first n t k (effect.Ins row) (composed_effects x fs) bt)

  -- a lower insert before all else
  lower_insert : (n : ℕ) (t : Table) (k : Key) (row : Row) (x fs : Effects) → T (below_all key_cmp k t)
      → T (below_all key_cmp k x) → T (below_all key_cmp k fs) → AreFolded t x fs n → AreFolded t ((k, effect.Ins row) ∷ x) fs n
  lower_insert n t k row x fs bt bx bf rest n' a d level =
      let next : suc n' + (d + 0) ≡ n + (a + 1) = omega arith in
      (λ i. fold_from key_cols (canon_first n t k (effect.Ins row) x bt i) a d
      (canonical_entries_from n' (apply_inserted t k row x bt bx i) fs))
      ∙ ap (fold_from key_cols (entry_at n (Ins row) ∷ canonical_entries_from n t x) a d)
      (canonical_entries_from_past n' (k, row) (table_with t x) fs bf)
      ∙ lower_first key_cols n n' a d level (Ins row) (canonical_entries_from n t x)
      (canonical_entries_from (suc n') (table_with t x) fs) (after_next n' (table_with t x) fs)
      ∙ ap (λ es. entry_at n (Ins row) ∷ es) (rest (suc n') (a + 1) (d + 0) next)
      ∙ sym (ap (canonical_entries_from n t) (compose_past k (effect.Ins row) x fs bf)
      ∙ canon_first n t k (effect.Ins row) (composed_effects x fs) bt)

  -- an upper effect on an inserted row
  module _ (n : ℕ) (t : Table) (k : Key) (row : Row) (x fs : Effects) (bt : T (below_all key_cmp k t))
      (bx : T (below_all key_cmp k x)) (bf : T (below_all key_cmp k fs)) (rest : AreFolded t x fs n) where
    next_level : (n' a d : ℕ) → n' + d ≡ n + a → suc n' + (d + 0) ≡ n + (a + 1)
    next_level n' a d level = omega arith

    start : (f : Effect) (n' a d : ℕ) → fold_from key_cols (canonical_entries_from n t ((k, effect.Ins row) ∷ x)) a d
        (canonical_entries_from n' (table_with t ((k, effect.Ins row) ∷ x)) ((k, f) ∷ fs))
        ≡ fold_from key_cols (entry_at n (Ins row) ∷ canonical_entries_from n t x) a d
        (entries_of n' k f ++ canonical_entries_from (suc n') (table_with t x) fs)
    start f n' a d =
        (λ i. fold_from key_cols (canon_first n t k (effect.Ins row) x bt i) a d
        (canonical_entries_from n' (apply_inserted t k row x bt bx i) ((k, f) ∷ fs)))
        ∙ ap (fold_from key_cols (entry_at n (Ins row) ∷ canonical_entries_from n t x) a d)
        (canon_here (k, row) (table_with t x) (below_apply k t x bt bx) n' fs bf f)

    on_inserted : (f : Effect) → T (fits (Some row) f) → AreFolded t ((k, effect.Ins row) ∷ x) ((k, f) ∷ fs) n
    on_inserted (effect.Ins new) fit n' a d level = absurd fit
    on_inserted effect.Del fit n' a d level =
        start effect.Del n' a d
        ∙ neither_here key_cols n n' a d level (Ins row) (Del k) (canonical_entries_from n t x)
        (canonical_entries_from (suc n') (table_with t x) fs) refl
        ∙ rest (suc n') (a + 1) (d + 0) (next_level n' a d level)
        ∙ sym (ap (canonical_entries_from n t) (compose_gone k (effect.Ins row) effect.Del x fs bx bf refl))
    on_inserted (effect.Mod cells) fit n' a d level =
        start (effect.Mod cells) n' a d
        ∙ mods_into key_cols n n' a d level cells row (canonical_entries_from n t x) (canonical_entries_from (suc n') (table_with t x) fs)
        ∙ lower_first key_cols n n' a d level (Ins (set_cells cells row)) (canonical_entries_from n t x)
        (canonical_entries_from (suc n') (table_with t x) fs) (after_next n' (table_with t x) fs)
        ∙ ap (λ es. entry_at n (Ins (set_cells cells row)) ∷ es) (rest (suc n') (a + 1) (d + 0) (next_level n' a d level))
        ∙ sym (ap (canonical_entries_from n t)
        (compose_kept k (effect.Ins row) (effect.Mod cells) x fs bx bf (effect.Ins (set_cells cells row)) refl)
        ∙ canon_first n t k (effect.Ins (set_cells cells row)) (composed_effects x fs) bt)
    on_inserted (effect.Rep new) fit n' a d level =
        start (effect.Rep new) n' a d
        ∙ upper_here key_cols n n' a d level (Ins row) (Ins new) (canonical_entries_from n t x)
        (entry_at n' (Del k) ∷ canonical_entries_from (suc n') (table_with t x) fs) refl
        ∙ ap (λ es. entry_at n (Ins new) ∷ es)
        (neither_here key_cols n n' a d level (Ins row) (Del k) (canonical_entries_from n t x)
        (canonical_entries_from (suc n') (table_with t x) fs) refl
        ∙ rest (suc n') (a + 1) (d + 0) (next_level n' a d level))
        ∙ sym (ap (canonical_entries_from n t) (compose_kept k (effect.Ins row) (effect.Rep new) x fs bx bf (effect.Ins new) refl)
        ∙ canon_first n t k (effect.Ins new) (composed_effects x fs) bt)

  -- ---- the walk at the first row

  module _ (n : ℕ) (e : Key × Row) (t : Table) (bt : T (below_all key_cmp e.0 t)) where
    -- a row without effects
    untouched : (x fs : Effects) → T (below_all key_cmp e.0 x) → T (below_all key_cmp e.0 fs) → AreFolded t x fs (suc n)
        → AreFolded (e ∷ t) x fs n
    untouched x fs bx bf rest n' a d level =
        let next : suc n' + d ≡ suc n + a = omega arith in
        (λ i. fold_from key_cols (canonical_entries_from_past n e t x bx i) a d
        (canonical_entries_from n' (alter_all_past key_cmp key_cmp_total row_after x e t bx i) fs))
        ∙ ap (fold_from key_cols (canonical_entries_from (suc n) t x) a d) (canonical_entries_from_past n' e (table_with t x) fs bf)
        ∙ rest (suc n') a d next
        ∙ sym (canonical_entries_from_past n e t (composed_effects x fs) (below_compose e.0 x fs bx bf))

    -- with an upper effect alone
    upper_alone : (x : Effects) (f : Effect) (fs : Effects) → T (below_all key_cmp e.0 x) → T (below_all key_cmp e.0 fs)
        → AreFolded t x fs (suc n) → AreFolded (e ∷ t) x ((e.0, f) ∷ fs) n
    upper_alone x f fs bx bf rest n' a d level =
        let next : suc n' + d ≡ suc n + a = omega arith in
        (λ i. fold_from key_cols (canonical_entries_from_past n e t x bx i) a d
        (canonical_entries_from n' (alter_all_past key_cmp key_cmp_total row_after x e t bx i) ((e.0, f) ∷ fs)))
        ∙ ap (fold_from key_cols (canonical_entries_from (suc n) t x) a d)
        (canon_here e (table_with t x) (below_apply e.0 t x bt bx) n' fs bf f)
        ∙ effect_first n n' a d level e.0 f (canonical_entries_from (suc n) t x)
        (canonical_entries_from (suc n') (table_with t x) fs) (after_next n t x)
        ∙ ap (λ es. entries_of n e.0 f ++ es) (rest (suc n') a d next)
        ∙ sym (ap (canonical_entries_from n (e ∷ t)) (compose_first e.0 f x fs bx bf)
        ∙ canon_here e t bt n (composed_effects x fs) (below_compose e.0 x fs bx bf) f)

    module _ (x fs : Effects) (bx : T (below_all key_cmp e.0 x)) (bf : T (below_all key_cmp e.0 fs))
        (hf : T (list_all (λ e. is_keyed_effect key_cols e.0 e.1) fs)) (rest : AreFolded t x fs (suc n)) where
      abbrev lowers : List Entry
      lowers = canonical_entries_from (suc n) t x

      -- the entries of an effect that is left at the row, and then the others'
      ended : (h : Effect) → canonical_entries_from n (e ∷ t) ((e.0, h) ∷ composed_effects x fs)
          ≡ entries_of n e.0 h ++ canonical_entries_from (suc n) t (composed_effects x fs)
      ended h = canon_here e t bt n (composed_effects x fs) (below_compose e.0 x fs bx bf) h

      kept : (g f h : Effect) → composed_effect f (Some g) ≡ Some h
          → entries_of n e.0 h ++ canonical_entries_from (suc n) t (composed_effects x fs)
          ≡ canonical_entries_from n (e ∷ t) (composed_effects ((e.0, g) ∷ x) ((e.0, f) ∷ fs))
      kept g f h is = sym (ap (canonical_entries_from n (e ∷ t)) (compose_kept e.0 g f x fs bx bf h is) ∙ ended h)

      passed : (g : Effect) → entries_of n e.0 g ++ canonical_entries_from (suc n) t (composed_effects x fs)
          ≡ canonical_entries_from n (e ∷ t) (composed_effects ((e.0, g) ∷ x) fs)
      passed g = sym (ap (canonical_entries_from n (e ∷ t)) (compose_past e.0 g x fs bf) ∙ ended g)

      -- the two lists, where the lower effect leaves a row
      lists_past : (g : Effect) (row : Row) → row_after g (Some e.1) ≡ Some row → (n' a d : ℕ)
          → fold_from key_cols (canonical_entries_from n (e ∷ t) ((e.0, g) ∷ x)) a d
          (canonical_entries_from n' (table_with (e ∷ t) ((e.0, g) ∷ x)) fs)
          ≡ fold_from key_cols (entries_of n e.0 g ++ lowers) a d (canonical_entries_from (suc n') (table_with t x) fs)
      lists_past g row is n' a d =
          (λ i. fold_from key_cols (canon_here e t bt n x bx g i) a d (canonical_entries_from n' (apply_here e t bt n x bx g row is i) fs))
          ∙ ap (fold_from key_cols (entries_of n e.0 g ++ lowers) a d) (canonical_entries_from_past n' (e.0, row) (table_with t x) fs bf)

      lists_both : (g f : Effect) (row : Row) → row_after g (Some e.1) ≡ Some row → (n' a d : ℕ)
          → fold_from key_cols (canonical_entries_from n (e ∷ t) ((e.0, g) ∷ x)) a d
          (canonical_entries_from n' (table_with (e ∷ t) ((e.0, g) ∷ x)) ((e.0, f) ∷ fs))
          ≡ fold_from key_cols (entries_of n e.0 g ++ lowers) a d
          (entries_of n' e.0 f ++ canonical_entries_from (suc n') (table_with t x) fs)
      lists_both g f row is n' a d =
          (λ i. fold_from key_cols (canon_here e t bt n x bx g i) a d
          (canonical_entries_from n' (apply_here e t bt n x bx g row is i) ((e.0, f) ∷ fs)))
          ∙ ap (fold_from key_cols (entries_of n e.0 g ++ lowers) a d)
          (canon_here (e.0, row) (table_with t x) (below_apply e.0 t x bt bx) n' fs bf f)

      -- past a deleted row, and past one that was replaced
      past_deleted : (n' a d : ℕ) → n' + d ≡ n + a
          → fold_from key_cols (entry_at n (Del e.0) ∷ lowers) a d (canonical_entries_from n' (table_with t x) fs)
          ≡ entry_at n (Del e.0) ∷ canonical_entries_from (suc n) t (composed_effects x fs)
      past_deleted n' a d level = grind (arith, common_steps, delete_first)

      past_replaced : (row : Row) (n' a d : ℕ) → n' + d ≡ n + a
          → fold_from key_cols (entry_at n (Ins row) ∷ entry_at n (Del e.0) ∷ lowers) a d
          (canonical_entries_from (suc n') (table_with t x) fs)
          ≡ entry_at n (Ins row) ∷ entry_at n (Del e.0) ∷ canonical_entries_from (suc n) t (composed_effects x fs)
      past_replaced row n' a d level =
          let next : suc n' + (d + 0) ≡ n + (a + 1) = omega arith in
          lower_first key_cols n n' a d level (Ins row) (entry_at n (Del e.0) ∷ lowers)
          (canonical_entries_from (suc n') (table_with t x) fs) (after_next n' (table_with t x) fs)
          ∙ ap (λ es. entry_at n (Ins row) ∷ es) (past_deleted (suc n') (a + 1) (d + 0) next)

      -- a replaced row that goes away
      replaced_gone : (row : Row) (n' a d : ℕ) → n' + d ≡ n + a
          → fold_from key_cols (entry_at n (Ins row) ∷ entry_at n (Del e.0) ∷ lowers) a d
          (entry_at n' (Del e.0) ∷ canonical_entries_from (suc n') (table_with t x) fs)
          ≡ entry_at n (Del e.0) ∷ canonical_entries_from (suc n) t (composed_effects x fs)
      replaced_gone row n' a d level = grind (arith, common_steps, neither_here, canonical_entries_from, past_deleted)

      past : (n' a d : ℕ) → n' + d ≡ n + a → fold_from key_cols lowers a d (canonical_entries_from (suc n') (table_with t x) fs)
          ≡ canonical_entries_from (suc n) t (composed_effects x fs)
      past n' a d level = let next : suc n' + d ≡ suc n + a = omega arith in rest (suc n') a d next

      -- with a lower effect alone
      lower_alone : (g : Effect) → T (fits (Some e.1) g) → AreFolded (e ∷ t) ((e.0, g) ∷ x) fs n
      lower_alone (effect.Ins row) fit n' a d level = absurd fit
      lower_alone effect.Del fit n' a d level =
          (λ i. fold_from key_cols (canon_here e t bt n x bx effect.Del i) a d
          (canonical_entries_from n' (apply_deleted e t bt n x bx i) fs))
          ∙ past_deleted n' a d level
          ∙ passed effect.Del
      lower_alone (effect.Mod cells) fit n' a d level =
          lists_past (effect.Mod cells) (set_cells cells e.1) refl n' a d
          ∙ mods_lower key_cols n n' a d level cells lowers (canonical_entries_from (suc n') (table_with t x) fs)
          (after_next n' (table_with t x) fs)
          ∙ ap (λ es. mods n cells ++ es) (past n' a d level)
          ∙ passed (effect.Mod cells)
      lower_alone (effect.Rep row) fit n' a d level =
          lists_past (effect.Rep row) row refl n' a d
          ∙ past_replaced row n' a d level
          ∙ passed (effect.Rep row)

      -- with effects of both
      both_at : (g f : Effect) → T (fits (Some e.1) g) → T (fits (row_after g (Some e.1)) f) → T (cells_ascend g)
          → T (cells_ascend f) → T (is_keyed_effect key_cols e.0 f) → AreFolded (e ∷ t) ((e.0, g) ∷ x) ((e.0, f) ∷ fs) n
      both_at (effect.Ins row) f fg ff ag af kf n' a d level = absurd fg
      both_at effect.Del (effect.Ins new) fg ff ag af kf n' a d level =
          (λ i. fold_from key_cols (canon_here e t bt n x bx effect.Del i) a d
          (canonical_entries_from n' (apply_deleted e t bt n x bx i) ((e.0, effect.Ins new) ∷ fs)))
          ∙ ap (fold_from key_cols (entry_at n (Del e.0) ∷ lowers) a d)
          (canon_first n' (table_with t x) e.0 (effect.Ins new) fs (below_apply e.0 t x bt bx))
          ∙ upper_here key_cols n n' a d level (Del e.0) (Ins new) lowers (canonical_entries_from n' (table_with t x) fs)
          (insert_meets_delete e.0 e.0 new Equal kf (tied_itself key_cmp_total e.0))
          ∙ ap (λ es. entry_at n (Ins new) ∷ es) (past_deleted n' a d level)
          ∙ kept effect.Del (effect.Ins new) (effect.Rep new) refl
      both_at effect.Del effect.Del fg ff ag af kf n' a d level = absurd ff
      both_at effect.Del (effect.Mod cells) fg ff ag af kf n' a d level = absurd ff
      both_at effect.Del (effect.Rep new) fg ff ag af kf n' a d level = absurd ff
      both_at (effect.Mod cells) (effect.Ins new) fg ff ag af kf n' a d level = absurd ff
      both_at (effect.Mod cells) effect.Del fg ff ag af kf n' a d level =
          lists_both (effect.Mod cells) effect.Del (set_cells cells e.1) refl n' a d
          ∙ mods_deleted key_cols n n' a d level cells e.0 lowers (canonical_entries_from (suc n') (table_with t x) fs)
          ∙ upper_first key_cols n n' a d level lowers (after_next n t x) (Del e.0) (canonical_entries_from (suc n') (table_with t x) fs)
          ∙ ap (λ es. entry_at n (Del e.0) ∷ es) (past n' a d level)
          ∙ kept (effect.Mod cells) effect.Del effect.Del refl
      both_at (effect.Mod cells) (effect.Mod later) fg ff ag af kf n' a d level =
          lists_both (effect.Mod cells) (effect.Mod later) (set_cells cells e.1) refl n' a d
          ∙ mods_merged key_cols n n' a d level cells lowers (canonical_entries_from (suc n') (table_with t x) fs)
          (after_next n t x) (after_next n' (table_with t x) fs) ag later af
          ∙ ap (λ es. mods n (over_cells cells later) ++ es) (past n' a d level)
          ∙ kept (effect.Mod cells) (effect.Mod later) (effect.Mod (over_cells cells later)) refl
      both_at (effect.Mod cells) (effect.Rep new) fg ff ag af kf n' a d level =
          lists_both (effect.Mod cells) (effect.Rep new) (set_cells cells e.1) refl n' a d
          ∙ mods_after_insert key_cols n n' a d level cells new lowers
          (entry_at n' (Del e.0) ∷ canonical_entries_from (suc n') (table_with t x) fs) (after_next n t x)
          ∙ ap (λ es. entry_at n (Ins new) ∷ es)
          (mods_deleted key_cols n n' a d level cells e.0 lowers (canonical_entries_from (suc n') (table_with t x) fs)
          ∙ upper_first key_cols n n' a d level lowers (after_next n t x) (Del e.0) (canonical_entries_from (suc n') (table_with t x) fs)
          ∙ ap (λ es. entry_at n (Del e.0) ∷ es) (past n' a d level))
          ∙ kept (effect.Mod cells) (effect.Rep new) (effect.Rep new) refl
      both_at (effect.Rep row) (effect.Ins new) fg ff ag af kf n' a d level = absurd ff
      both_at (effect.Rep row) effect.Del fg ff ag af kf n' a d level =
          lists_both (effect.Rep row) effect.Del row refl n' a d
          ∙ replaced_gone row n' a d level
          ∙ kept (effect.Rep row) effect.Del effect.Del refl
      both_at (effect.Rep row) (effect.Mod cells) fg ff ag af kf n' a d level =
          lists_both (effect.Rep row) (effect.Mod cells) row refl n' a d
          ∙ mods_into key_cols n n' a d level cells row (entry_at n (Del e.0) ∷ lowers)
          (canonical_entries_from (suc n') (table_with t x) fs)
          ∙ past_replaced (set_cells cells row) n' a d level
          ∙ kept (effect.Rep row) (effect.Mod cells) (effect.Rep (set_cells cells row)) refl
      both_at (effect.Rep row) (effect.Rep new) fg ff ag af kf n' a d level =
          lists_both (effect.Rep row) (effect.Rep new) row refl n' a d
          ∙ upper_here key_cols n n' a d level (Ins row) (Ins new) (entry_at n (Del e.0) ∷ lowers)
          (entry_at n' (Del e.0) ∷ canonical_entries_from (suc n') (table_with t x) fs) refl
          ∙ ap (λ es. entry_at n (Ins new) ∷ es) (replaced_gone row n' a d level)
          ∙ kept (effect.Rep row) (effect.Rep new) (effect.Rep new) refl

  -- ---- all keys

  -- effects over a table, and effects over the table after them
  pub record AreLawful (t : Table) (x f : Effects) : Type 0 where
    pub table_sorted : T (is_sorted key_cmp t)
    pub x_sorted : T (is_sorted key_cmp x)
    pub x_effects : T (list_all (λ e. is_keyed_effect key_cols e.0 e.1) x)
    pub x_fits : T (all_fit t x)
    pub f_sorted : T (is_sorted key_cmp f)
    pub f_effects : T (list_all (λ e. is_keyed_effect key_cols e.0 e.1) f)
    pub f_fits : T (all_fit (table_with t x) f)

  ascends_of : (k : Key) (g : Effect) → T (is_keyed_effect key_cols k g) → T (cells_ascend g)
  ascends_of k (effect.Ins row) h = tt
  ascends_of k effect.Del h = tt
  ascends_of k (effect.Mod cells) h = search rules
  ascends_of k (effect.Rep row) h = tt

  drop_upper : (t : Table) (x : Effects) (y : Key × Effect) (fs : Effects) → AreLawful t x (y ∷ fs) → AreLawful t x fs
  drop_upper t x y fs l = search rules

  drop_inserted : (t : Table) (k : Key) (row : Row) (x f : Effects) → T (below_all key_cmp k t) → T (below_all key_cmp k f)
      → AreLawful t ((k, effect.Ins row) ∷ x) f → AreLawful t x f
  drop_inserted t k row x f bt bf l = grind (arith, common_steps, second, apply_inserted, first, all_fit_past)

  drop_row : (e : Key × Row) (t : Table) (x f : Effects) → T (below_all key_cmp e.0 x) → T (below_all key_cmp e.0 f)
      → AreLawful (e ∷ t) x f → AreLawful t x f
  drop_row e t x f bx bf l = record {
    table_sorted = second _ _ l.table_sorted;
    x_sorted = l.x_sorted;
    x_effects = l.x_effects;
    x_fits = subst T (all_fit_past e t x bx) l.x_fits;
    f_sorted = l.f_sorted;
    f_effects = l.f_effects;
    f_fits =
        subst T
        (ap (λ u. all_fit u f) (alter_all_past key_cmp key_cmp_total row_after x e t bx) ∙ all_fit_past e (table_with t x) f bf)
        l.f_fits;
  }

  fits_after : (e : Key × Row) (t : Table) (g : Effect) (x f : Effects) → T (below_all key_cmp e.0 t)
      → T (below_all key_cmp e.0 x) → T (below_all key_cmp e.0 f) → T (fits (Some e.1) g)
      → all_fit (table_with (e ∷ t) ((e.0, g) ∷ x)) f ≡ all_fit (table_with t x) f
  fits_after e t (effect.Ins row) x f bt bx bf fit = absurd fit
  fits_after e t effect.Del x f bt bx bf fit = ap (λ u. all_fit u f) (apply_deleted e t bt 0 x bx)
  fits_after e t (effect.Mod cells) x f bt bx bf fit =
      ap (λ u. all_fit u f) (apply_here e t bt 0 x bx (effect.Mod cells) (set_cells cells e.1) refl)
      ∙ all_fit_past (e.0, set_cells cells e.1) (table_with t x) f bf
  fits_after e t (effect.Rep row) x f bt bx bf fit =
      ap (λ u. all_fit u f) (apply_here e t bt 0 x bx (effect.Rep row) row refl) ∙ all_fit_past (e.0, row) (table_with t x) f bf

  -- the lower effect on the first row fits it
  lower_fits : (e : Key × Row) (t : Table) (g : Effect) (x f : Effects) → AreLawful (e ∷ t) ((e.0, g) ∷ x) f → T (fits (Some e.1) g)
  lower_fits e t g x f l = subst (λ old. T (fits old g)) (found_here e t) (first _ _ l.x_fits)

  drop_both : (e : Key × Row) (t : Table) (g : Effect) (x f : Effects) → T (below_all key_cmp e.0 f)
      → AreLawful (e ∷ t) ((e.0, g) ∷ x) f → AreLawful t x f
  drop_both e t g x f bf l = grind (arith, common_steps, first, second, all_fit_past, fits_after, lower_fits)

  -- an upper effect below all keys is an insert
  upper_least : (n : ℕ) (t : Table) (x : Effects) (k : Key) (h : Effect) (fs : Effects) → T (below_all key_cmp k t)
      → T (below_all key_cmp k x) → AreLawful t x ((k, h) ∷ fs) → AreFolded t x fs n → AreFolded t x ((k, h) ∷ fs) n
  upper_least n t x k h fs bt bx l rest =
      by_effect h (first _ _ l.f_effects)
      (subst (λ old. T (fits old h)) (find_below key_cmp_total k (table_with t x) (below_apply k t x bt bx))
      (first _ _ l.f_fits))
    where
      bf : T (below_all key_cmp k fs)
      bf = first _ _ l.f_sorted

      by_effect : (h : Effect) → T (is_keyed_effect key_cols k h) → T (fits None h) → AreFolded t x ((k, h) ∷ fs) n
      by_effect (effect.Ins row) keyed fit = upper_insert n t x k row fs keyed bt bx bf rest
      by_effect effect.Del keyed fit = absurd fit
      by_effect (effect.Mod cells) keyed fit = absurd fit
      by_effect (effect.Rep row) keyed fit = absurd fit

  -- below every key that a greater one is below
  less_all : {X : Type 0} (k j : Key) (m : List (Key × X)) → key_cmp k j ≡ Less → T (below_all key_cmp j m) → T (below_all key_cmp k m)
  less_all k j m p h = below_less key_cmp_total k j m p h

  less_head : {X : Type 0} (k : Key) (e : Key × X) (m : List (Key × X)) → key_cmp k e.0 ≡ Less → T (below_all key_cmp e.0 m)
      → T (below_all key_cmp k (e ∷ m))
  less_head k e m p h = both _ _ (subst (λ r. T (is_lt r)) (sym p) tt) (less_all k e.0 m p h)

  above : {X : Type 0} (e : Key) (y : Key × X) (ys : List (Key × X)) → key_cmp y.0 e ≡ Greater → T (is_sorted key_cmp (y ∷ ys))
      → T (below_all key_cmp e (y ∷ ys))
  above e y ys p h = less_head e y ys (turn_greater key_cmp_total y.0 e p) (first _ _ h)

  -- ---- a lower insert first of all lower entries

  inserted_case : (n : ℕ) (t : Table) (j : Key) (row : Row) (x : Effects) → T (below_all key_cmp j t)
      → ((f : Effects) → AreLawful t x f → AreFolded t x f n) → (f : Effects) → AreLawful t ((j, effect.Ins row) ∷ x) f
      → AreFolded t ((j, effect.Ins row) ∷ x) f n
  inserted_case n t j row x bt ih [] l =
      lower_insert n t j row x [] bt (first _ _ l.x_sorted) tt (ih [] (drop_inserted t j row x [] bt tt l))
  inserted_case n t j row x bt ih (y ∷ fs) l =
      let bx = first _ _ l.x_sorted in
      elim (key_cmp y.0 j) as (λ r. key_cmp y.0 j ≡ r → AreFolded t ((j, effect.Ins row) ∷ x) (y ∷ fs) n) [
        | Less ↦ λ p.
            upper_least n t ((j, effect.Ins row) ∷ x) y.0 y.1 fs (less_all y.0 j t p bt) (less_head y.0 (j, effect.Ins row) x p bx) l
            (inserted_case n t j row x bt ih fs (drop_upper t ((j, effect.Ins row) ∷ x) y fs l))
        | Equal ↦ λ p.
            let same = key_cmp-IsAntisymmetric y.0 j p in
            subst
            (λ k. AreLawful t ((j, effect.Ins row) ∷ x) ((k, y.1) ∷ fs) → AreFolded t ((j, effect.Ins row) ∷ x) ((k, y.1) ∷ fs) n)
            (sym same)
            (λ m.
            let bf : T (below_all key_cmp j fs) = first _ _ m.f_sorted in
            let there =
            ap (λ u. row_at u j) (apply_inserted t j row x bt bx)
            ∙ find_first key_cmp key_cmp_total (j, row) (table_with t x) in
            on_inserted n t j row x fs bt bx bf
            (ih fs (drop_inserted t j row x fs bt bf (drop_upper t ((j, effect.Ins row) ∷ x) (j, y.1) fs m)))
            y.1 (subst (λ old. T (fits old y.1)) there (first _ _ m.f_fits)))
            l
        | Greater ↦ λ p.
            let bf = above j y fs p l.f_sorted in
            lower_insert n t j row x (y ∷ fs) bt bx bf (ih (y ∷ fs) (drop_inserted t j row x (y ∷ fs) bt bf l))
      ] refl

  -- a lower effect below all rows is an insert
  lower_least : (n : ℕ) (t : Table) (j : Key) (g : Effect) (x : Effects) → T (below_all key_cmp j t)
      → ((f : Effects) → AreLawful t x f → AreFolded t x f n) → (f : Effects) → AreLawful t ((j, g) ∷ x) f
      → AreFolded t ((j, g) ∷ x) f n
  lower_least n t j (effect.Ins row) x bt ih f l = inserted_case n t j row x bt ih f l
  lower_least n t j effect.Del x bt ih f l =
      absurd (subst (λ old. T (fits old effect.Del)) (find_below key_cmp_total j t bt) (first _ _ l.x_fits))
  lower_least n t j (effect.Mod cells) x bt ih f l =
      absurd (subst (λ old. T (fits old (effect.Mod cells))) (find_below key_cmp_total j t bt) (first _ _ l.x_fits))
  lower_least n t j (effect.Rep row) x bt ih f l =
      absurd (subst (λ old. T (fits old (effect.Rep row))) (find_below key_cmp_total j t bt) (first _ _ l.x_fits))

  -- ---- no rows

  nil_upper : (n : ℕ) (f : Effects) → AreLawful [] [] f → AreFolded [] [] f n
  nil_upper n [] l = λ n' a d level. refl
  nil_upper n (y ∷ fs) l = upper_least n [] [] y.0 y.1 fs tt tt l (nil_upper n fs (drop_upper [] [] y fs l))

  folded_nil : (n : ℕ) (x f : Effects) → AreLawful [] x f → AreFolded [] x f n
  folded_nil n [] f l = nil_upper n f l
  folded_nil n (y ∷ x) f l = lower_least n [] y.0 y.1 x tt (λ g m. folded_nil n x g m) f l

  -- ---- a first row

  module _ (n : ℕ) (e : Key × Row) (t : Table) (bt : T (below_all key_cmp e.0 t))
      (ih : (x f : Effects) → AreLawful t x f → AreFolded t x f (suc n)) where
    -- the lower effects above the row
    row_case : (x : Effects) → T (below_all key_cmp e.0 x) → (f : Effects) → AreLawful (e ∷ t) x f → AreFolded (e ∷ t) x f n
    row_case x bx [] l = untouched n e t bt x [] bx tt (ih x [] (drop_row e t x [] bx tt l))
    row_case x bx (y ∷ fs) l =
        elim (key_cmp y.0 e.0) as (λ r. key_cmp y.0 e.0 ≡ r → AreFolded (e ∷ t) x (y ∷ fs) n) [
          | Less ↦ λ p.
              upper_least n (e ∷ t) x y.0 y.1 fs (less_head y.0 e t p bt) (less_all y.0 e.0 x p bx) l
              (row_case x bx fs (drop_upper (e ∷ t) x y fs l))
          | Equal ↦ λ p.
              let same = key_cmp-IsAntisymmetric y.0 e.0 p in
              subst (λ k. AreLawful (e ∷ t) x ((k, y.1) ∷ fs) → AreFolded (e ∷ t) x ((k, y.1) ∷ fs) n) (sym same)
              (λ m.
              let bf : T (below_all key_cmp e.0 fs) = first _ _ m.f_sorted in
              upper_alone n e t bt x y.1 fs bx bf (ih x fs (drop_row e t x fs bx bf (drop_upper (e ∷ t) x (e.0, y.1) fs m))))
              l
          | Greater ↦ λ p.
              let bf = above e.0 y fs p l.f_sorted in
              untouched n e t bt x (y ∷ fs) bx bf (ih x (y ∷ fs) (drop_row e t x (y ∷ fs) bx bf l))
        ] refl

    -- a lower effect on the row
    effect_case : (g : Effect) (x : Effects) (f : Effects) → AreLawful (e ∷ t) ((e.0, g) ∷ x) f → AreFolded (e ∷ t) ((e.0, g) ∷ x) f n
    effect_case g x [] l =
        lower_alone n e t bt x [] (first _ _ l.x_sorted) tt tt (ih x [] (drop_both e t g x [] tt l)) g (lower_fits e t g x [] l)
    effect_case g x (y ∷ fs) l =
        let bx = first _ _ l.x_sorted in
        elim (key_cmp y.0 e.0) as (λ r. key_cmp y.0 e.0 ≡ r → AreFolded (e ∷ t) ((e.0, g) ∷ x) (y ∷ fs) n) [
          | Less ↦ λ p.
              upper_least n (e ∷ t) ((e.0, g) ∷ x) y.0 y.1 fs (less_head y.0 e t p bt) (less_head y.0 (e.0, g) x p bx) l
              (effect_case g x fs (drop_upper (e ∷ t) ((e.0, g) ∷ x) y fs l))
          | Equal ↦ λ p.
              let same = key_cmp-IsAntisymmetric y.0 e.0 p in
              subst (λ k. AreLawful (e ∷ t) ((e.0, g) ∷ x) ((k, y.1) ∷ fs) → AreFolded (e ∷ t) ((e.0, g) ∷ x) ((k, y.1) ∷ fs) n) (sym same)
              (λ m.
              let bf : T (below_all key_cmp e.0 fs) = first _ _ m.f_sorted in
              let rest = drop_both e t g x fs bf (drop_upper (e ∷ t) ((e.0, g) ∷ x) (e.0, y.1) fs m) in
              let there =
              row_at-table_with (e ∷ t) ((e.0, g) ∷ x) e.0 m.x_sorted
              ∙ (λ i. changed_by row_after (find_first key_cmp key_cmp_total (e.0, g) x i) (found_here e t i)) in
              both_at n e t bt x fs bx bf rest.f_effects (ih x fs rest) g y.1
              (lower_fits e t g x ((e.0, y.1) ∷ fs) m)
              (subst (λ old. T (fits old y.1)) there (first _ _ m.f_fits))
              (ascends_of e.0 g (first _ _ m.x_effects)) (ascends_of e.0 y.1 (first _ _ m.f_effects)) (first _ _ m.f_effects))
              l
          | Greater ↦ λ p.
              let bf = above e.0 y fs p l.f_sorted in
              lower_alone n e t bt x (y ∷ fs) bx bf l.f_effects (ih x (y ∷ fs) (drop_both e t g x (y ∷ fs) bf l)) g
              (lower_fits e t g x (y ∷ fs) l)
        ] refl

    folded_cons : (x f : Effects) → AreLawful (e ∷ t) x f → AreFolded (e ∷ t) x f n
    folded_cons [] f l = row_case [] tt f l
    folded_cons (y ∷ x) f l =
        elim (key_cmp y.0 e.0) as (λ r. key_cmp y.0 e.0 ≡ r → AreFolded (e ∷ t) (y ∷ x) f n) [
          | Less ↦ λ p. lower_least n (e ∷ t) y.0 y.1 x (less_head y.0 e t p bt) (λ g m. folded_cons x g m) f l
          | Equal ↦ λ p.
              let same = key_cmp-IsAntisymmetric y.0 e.0 p in
              subst (λ k. AreLawful (e ∷ t) ((k, y.1) ∷ x) f → AreFolded (e ∷ t) ((k, y.1) ∷ x) f n) (sym same)
              (λ m. effect_case y.1 x f m) l
          | Greater ↦ λ p. row_case (y ∷ x) (above e.0 y x p l.x_sorted) f l
        ] refl

  folded_from : (t : Table) (n : ℕ) (x f : Effects) → AreLawful t x f → AreFolded t x f n
  folded_from [] n x f l = folded_nil n x f l
  folded_from (e ∷ t) n x f l = folded_cons n e t (first _ _ l.table_sorted) (λ y g m. folded_from t (suc n) y g m) x f l

  -- the walk over the entries of X and of F over the table after X gives the entries of the two composed
  pub folded_entries-canonical_entries : (t : Table) (x f : Effects) → AreLawful t x f
      → folded_entries key_cols (canonical_entries t x) (canonical_entries (table_with t x) f)
      ≡ canonical_entries t (composed_effects x f)
  folded_entries-canonical_entries t x f l =
      (λ i. fold_from key_cols (sym (canonical_entries_from_zero t x) i) 0 0 (sym (canonical_entries_from_zero (table_with t x) f) i))
      ∙ folded_from t 0 x f l 0 0 0 refl
      ∙ canonical_entries_from_zero t (composed_effects x f)
