-- The image of the entries of effects is the table after them.
use Rattle.std.proofs.Common.{◌≡◌, ℕ, suc, ◌+◌, ◌<◌, Bool, false, cond, not, ◌&&◌, T, Some, None, List, [], ◌∷◌, ◌++◌, map, length, filter, flat_map, Less, Equal, Greater, is_lt, is_eq, refl, sym, ap, ◌∙◌, subst, arith, rules}
use Rattle.std.proofs.lemmas.Bool.Decides.{nat_tests}
use Rattle.std.specs.Prelude.{◌==◌, nat_lt, slice_set}
use Rattle.std.specs.Cmp.{tied_itself}
use Rattle.std.specs.List.{list_all}
use Rattle.std.specs.FinMap.Entries.{by_order, below_all}
use Rattle.values.specs.Orders.{key_cmp, key_cmp_total, key_cmp-IsAntisymmetric}
use Rattle.values.specs.declared.row.Row.{Row}
use Rattle.values.specs.declared.row.Key.{Key}
use Rattle.model.specs.declared.entry.Entry.{Entry}
use Rattle.model.specs.declared.entry.Change.{Change}
use Rattle.model.specs.declared.entry.Change.TheVariants.{Ins, Del, Mod}
use Rattle.model.specs.Maps.{put, is_sorted, without, store, alter_all}
use Rattle.model.specs.Table.{Table, rows_of, row_at, rank}
use Rattle.model.specs.Effects.{Cells, set_cells, Effects, fits, all_fit, row_after, table_with}
use Rattle.model.specs.declared.effect.Effect.{Effect}
use Rattle.model.specs.declared.effect.Effect.TheVariants as effect
use Rattle.model.specs.Entries.{entry_at, entries_of, canonical_entries}
use Rattle.model.specs.Merging.{changes_at, inserted_rows, left_of, merged_rows_from, merged_rows}
use Rattle.model.proofs.MapsLemmas.{both, first, second, less, turn_less, turn_greater, below_head, below_less, find_below, without_below, find_past, alter_all_past}
use Rattle.std.proofs.lemmas.Grind.{common_steps}

-- ---- changes at a place

above_other : (n m : ℕ) → n < m → (m == n) ≡ false
above_other n m lt = grind (arith, nat_tests)

-- an entry at a place is the first change there, before those of the rest
pub changes_at_here : (n : ℕ) (c : Change) (es : List Entry) → changes_at n (entry_at n c ∷ es) ≡ c ∷ changes_at n es
changes_at_here n c es = search rules

-- an entry at another place adds no change here
pub changes_at_other : (n : ℕ) (e : Entry) (es : List Entry) → (e.sid == n) ≡ false → changes_at n (e ∷ es) ≡ changes_at n es
changes_at_other n e es h =
    ap (λ b. map (λ (e : Entry). e.change) (cond b (e ∷ filter (λ e. e.sid == n) es) (filter (λ e. e.sid == n) es))) h

-- each entry stands after place n
abbrev pub all_after : ℕ → List Entry → Bool
all_after n es = list_all (λ e. nat_lt n e.sid) es

-- a number that tests as lower is lower
pub lt_of : (n m : ℕ) → T (nat_lt n m) → n < m
lt_of n m h = grind (arith, nat_tests)

-- a number that is lower tests as lower
pub of_lt : (n m : ℕ) → n < m → T (nat_lt n m)
of_lt n m h = grind (arith, nat_tests)

-- at a place before all entries there are no changes
pub changes_at_after : (n : ℕ) (es : List Entry) → T (all_after n es) → changes_at n es ≡ []
changes_at_after n [] h = refl
changes_at_after n (e ∷ es) h =
    changes_at_other n e es (above_other n e.sid (lt_of _ _ (first _ _ h))) ∙ changes_at_after n es (second _ _ h)

-- an entry before the first place is passed over
before_other : (n m : ℕ) → n < m → (n == m) ≡ false
before_other n m lt = grind (arith, nat_tests)

-- an entry before the place that the merge starts from changes nothing
pub merged_rows_from_past : (n m : ℕ) (c : Change) (base : List Row) (es : List Entry) → n < m
    → merged_rows_from m base (entry_at n c ∷ es) ≡ merged_rows_from m base es
merged_rows_from_past n m c [] es lt = ap inserted_rows (changes_at_other m (entry_at n c) es (before_other n m lt))
merged_rows_from_past n m c (row ∷ base) es lt =
    let here = changes_at_other m (entry_at n c) es (before_other n m lt) in
    let later : n < suc m = omega arith in
    λ i. inserted_rows (here i) ++ (left_of row (here i) ++ merged_rows_from_past n (suc m) c base es later i)

-- an insert at the first place comes first
pub merged_rows_from_insert : (n : ℕ) (new : Row) (base : List Row) (es : List Entry)
    → merged_rows_from n base (entry_at n (Ins new) ∷ es) ≡ new ∷ merged_rows_from n base es
merged_rows_from_insert n new [] es = ap inserted_rows (changes_at_here n (Ins new) es)
merged_rows_from_insert n new (row ∷ base) es = grind (arith, common_steps, changes_at_here, merged_rows_from_past)

-- without entries at the first place its row stands
pub merged_rows_from_none : (n : ℕ) (row : Row) (base : List Row) (es : List Entry) → T (all_after n es)
    → merged_rows_from n (row ∷ base) es ≡ row ∷ merged_rows_from (suc n) base es
merged_rows_from_none n row base es h =
    ap (λ cs. inserted_rows cs ++ (left_of row cs ++ merged_rows_from (suc n) base es)) (changes_at_after n es h)

-- a delete at the first place takes its row away
pub merged_rows_from_delete : (n : ℕ) (key : Key) (row : Row) (base : List Row) (es : List Entry) → T (all_after n es)
    → merged_rows_from n (row ∷ base) (entry_at n (Del key) ∷ es) ≡ merged_rows_from (suc n) base es
merged_rows_from_delete n key row base es h = grind (arith, common_steps, changes_at_here, changes_at_after, merged_rows_from_past)

-- modifies at the first place change its row's cells
pub merged_rows_from_modify : (n : ℕ) (cells : Cells) (row : Row) (base : List Row) (es : List Entry) → T (all_after n es)
    → merged_rows_from n (row ∷ base) (map (λ c. entry_at n (Mod c.0 c.1)) cells ++ es)
    ≡ set_cells cells row ∷ merged_rows_from (suc n) base es
merged_rows_from_modify n [] row base es h = merged_rows_from_none n row base es h
merged_rows_from_modify n (c ∷ cells) row base es h =
    grind (arith, common_steps, merged_rows_from_modify n cells (slice_set row c.0 c.1) base es h, changes_at_here, merged_rows_from_past)

-- no entries change nothing
pub merged_rows_from_nothing : (n : ℕ) (base : List Row) → merged_rows_from n base [] ≡ base
merged_rows_from_nothing n [] = refl
merged_rows_from_nothing n (row ∷ base) = ap (λ rows_of. row ∷ rows_of) (merged_rows_from_nothing (suc n) base)

-- ---- the entries of effects over a table whose first row has the place n

abbrev pub canonical_entries_from : ℕ → Table → Effects → List Entry
canonical_entries_from n t effects = flat_map (λ e. entries_of (n + rank e.0 t) e.0 e.1) effects

pub canonical_entries_from_zero : (t : Table) (effects : Effects) → canonical_entries_from 0 t effects ≡ canonical_entries t effects
canonical_entries_from_zero t [] = refl
canonical_entries_from_zero t (e ∷ effects) = search rules

rank_past : (k : Key) (e : Key × Row) (t : Table) → key_cmp e.0 k ≡ Less → rank k (e ∷ t) ≡ suc (rank k t)
rank_past k e t h = ap (λ r. length (cond (is_lt r) (e ∷ filter (λ e. is_lt (key_cmp e.0 k)) t) (filter (λ e. is_lt (key_cmp e.0 k)) t))) h

-- a key below all keys of a table has rank zero
pub rank_below : (k : Key) (t : Table) → T (below_all key_cmp k t) → rank k t ≡ 0
rank_below k [] h = refl
rank_below k (e ∷ t) h =
    ap (λ r. length (cond (is_lt r) (e ∷ filter (λ e. is_lt (key_cmp e.0 k)) t) (filter (λ e. is_lt (key_cmp e.0 k)) t)))
    (turn_less key_cmp_total k e.0 (less _ (first _ _ h)))
    ∙ rank_below k t (second _ _ h)

move_suc : (n r : ℕ) → n + suc r ≡ suc n + r
move_suc n r = omega arith

-- past a row with a smaller key than any effect's
pub canonical_entries_from_past : (n : ℕ) (e : Key × Row) (t : Table) (effects : Effects) → T (below_all key_cmp e.0 effects)
    → canonical_entries_from n (e ∷ t) effects ≡ canonical_entries_from (suc n) t effects
canonical_entries_from_past n e t [] h = refl
canonical_entries_from_past n e t (x ∷ effects) h =
    let place = ap (λ m. n + m) (rank_past x.0 e t (less _ (first _ _ h))) ∙ move_suc n (rank x.0 t) in
    λ i. entries_of (place i) x.0 x.1 ++ canonical_entries_from_past n e t effects (second _ _ h) i

after_append : (n : ℕ) (es fs : List Entry) → T (all_after n es) → T (all_after n fs) → T (all_after n (es ++ fs))
after_append n [] fs p q = q
after_append n (e ∷ es) fs p q = both _ _ (first _ _ p) (after_append n es fs (second _ _ p) q)

cells_after : (n m : ℕ) (cells : Cells) → n < m → T (all_after n (map (λ c. entry_at m (Mod c.0 c.1)) cells))
cells_after n m [] lt = tt
cells_after n m (c ∷ cells) lt = both _ _ (of_lt n m lt) (cells_after n m cells lt)

entries_after : (n m : ℕ) (k : Key) (f : Effect) → n < m → T (all_after n (entries_of m k f))
entries_after n m k (effect.Ins row) lt = both _ _ (of_lt n m lt) tt
entries_after n m k effect.Del lt = both _ _ (of_lt n m lt) tt
entries_after n m k (effect.Mod cells) lt = cells_after n m cells lt
entries_after n m k (effect.Rep row) lt = both _ _ (of_lt n m lt) (both _ _ (of_lt n m lt) tt)

pub canonical_entries_from_after : (n m : ℕ) (t : Table) (effects : Effects) → n < m → T (all_after n (canonical_entries_from m t effects))
canonical_entries_from_after n m t [] lt = tt
canonical_entries_from_after n m t (e ∷ effects) lt =
    let far : n < m + rank e.0 t = omega arith in
    after_append n (entries_of (m + rank e.0 t) e.0 e.1) (canonical_entries_from m t effects)
    (entries_after n (m + rank e.0 t) e.0 e.1 far) (canonical_entries_from_after n m t effects lt)

-- ---- the law

pub all_fit_past : (e : Key × Row) (t : Table) (effects : Effects) → T (below_all key_cmp e.0 effects)
    → all_fit (e ∷ t) effects ≡ all_fit t effects
all_fit_past e t [] h = refl
all_fit_past e t (x ∷ effects) h =
    let found = find_past key_cmp x.0 e t (below_head key_cmp_total e.0 x effects h) in
    λ i. fits (found i) x.1 && all_fit_past e t effects (second _ _ h) i

pub put_below : (k : Key) (row : Row) (t : Table) → T (below_all key_cmp k t) → put key_cmp k row t ≡ (k, row) ∷ t
put_below k row [] h = refl
put_below k row (e ∷ t) h = ap (λ r. by_order r ((k, row) ∷ e ∷ t) ((e.0, row) ∷ t) (e ∷ put key_cmp k row t)) (less _ (first _ _ h))

abbrev IsPatchedRight : Table → ℕ → Effects → Type 0
IsPatchedRight t n effects = merged_rows_from n (rows_of t) (canonical_entries_from n t effects) ≡ rows_of (table_with t effects)

-- an insert before each row
inserted_first : (n : ℕ) (k : Key) (row : Row) (t : Table) (effects : Effects) → T (below_all key_cmp k t)
    → T (below_all key_cmp k effects) → IsPatchedRight t n effects → IsPatchedRight t n ((k, effect.Ins row) ∷ effects)
inserted_first n k row t effects bt be rest =
    let none : rank k t ≡ 0 = rank_below k t bt in
    let here : n + rank k t ≡ n = omega arith in
    ap (λ m. merged_rows_from n (rows_of t) (entry_at m (Ins row) ∷ canonical_entries_from n t effects)) here
    ∙ merged_rows_from_insert n row (rows_of t) (canonical_entries_from n t effects)
    ∙ ap (λ rs. row ∷ rs) rest
    ∙ sym (ap rows_of (ap (alter_all key_cmp row_after effects) (put_below k row t bt)
    ∙ alter_all_past key_cmp key_cmp_total row_after effects (k, row) t be))

-- only an insert fits where nothing stands
absent_first : (n : ℕ) (k : Key) (f : Effect) (t : Table) (effects : Effects) → T (fits None f) → T (below_all key_cmp k t)
    → T (below_all key_cmp k effects) → IsPatchedRight t n effects → IsPatchedRight t n ((k, f) ∷ effects)
absent_first n k (effect.Ins row) t effects fit bt be rest = inserted_first n k row t effects bt be rest
absent_first n k effect.Del t effects fit bt be rest = absurd fit
absent_first n k (effect.Mod cells) t effects fit bt be rest = absurd fit
absent_first n k (effect.Rep row) t effects fit bt be rest = absurd fit

patched_nil : (n : ℕ) (effects : Effects) → T (is_sorted key_cmp effects) → T (all_fit [] effects) → IsPatchedRight [] n effects
patched_nil n [] sorted fit = refl
patched_nil n (x ∷ effects) sorted fit =
    absent_first n x.0 x.1 [] effects (first _ _ fit) tt (first _ _ sorted) (patched_nil n effects (second _ _ sorted) (second _ _ fit))

-- ---- an effect on the first row

module _ (e : Key × Row) (t : Table) where
  tied : key_cmp e.0 e.0 ≡ Equal
  tied = tied_itself key_cmp_total e.0

  put_here : (row : Row) → put key_cmp e.0 row (e ∷ t) ≡ (e.0, row) ∷ t
  put_here row = ap (λ r. by_order r ((e.0, row) ∷ e ∷ t) ((e.0, row) ∷ t) (e ∷ put key_cmp e.0 row t)) tied

  pub found_here : row_at (e ∷ t) e.0 ≡ Some e.1
  found_here = ap (λ r. cond (is_eq r) (Some e.1) (row_at t e.0)) tied

  module _ (bt : T (below_all key_cmp e.0 t)) where
    without_here : without key_cmp e.0 (e ∷ t) ≡ t
    without_here =
        ap (λ r. cond (not (is_eq r)) (e ∷ without key_cmp e.0 t) (without key_cmp e.0 t)) tied
        ∙ without_below key_cmp_total e.0 t bt

    rank_here : rank e.0 (e ∷ t) ≡ 0
    rank_here = grind (arith, common_steps, tied, rank_below)

    module _ (n : ℕ) (effects : Effects) (be : T (below_all key_cmp e.0 effects)) where
      -- the entries of an effect here, and then those of the others
      pub canon_here : (f : Effect)
          → canonical_entries_from n (e ∷ t) ((e.0, f) ∷ effects) ≡ entries_of n e.0 f ++ canonical_entries_from (suc n) t effects
      canon_here f = grind (arith, common_steps, rank_here, canonical_entries_from_past)

      far : T (all_after n (canonical_entries_from (suc n) t effects))
      far = let lt : n < suc n = omega arith in canonical_entries_from_after n (suc n) t effects lt

      -- the table after an effect here that leaves a row
      pub apply_here : (f : Effect) (row : Row) → row_after f (Some e.1) ≡ Some row
          → table_with (e ∷ t) ((e.0, f) ∷ effects) ≡ (e.0, row) ∷ table_with t effects
      apply_here f row is =
          let stored =
          ap (λ old. store key_cmp e.0 (row_after f old) (e ∷ t)) found_here
          ∙ ap (λ new. store key_cmp e.0 new (e ∷ t)) is
          ∙ put_here row in
          ap (alter_all key_cmp row_after effects) stored ∙ alter_all_past key_cmp key_cmp_total row_after effects (e.0, row) t be

      pub apply_deleted : table_with (e ∷ t) ((e.0, effect.Del) ∷ effects) ≡ table_with t effects
      apply_deleted = ap (alter_all key_cmp row_after effects) without_here

      module _ (rest : IsPatchedRight t (suc n) effects) where
        present_here : (f : Effect) → T (fits (Some e.1) f) → IsPatchedRight (e ∷ t) n ((e.0, f) ∷ effects)
        present_here (effect.Ins row) fit = absurd fit
        present_here effect.Del fit =
            ap (merged_rows_from n (rows_of (e ∷ t))) (canon_here effect.Del)
            ∙ merged_rows_from_delete n e.0 e.1 (rows_of t) (canonical_entries_from (suc n) t effects) far
            ∙ rest ∙ sym (ap rows_of apply_deleted)
        present_here (effect.Mod cells) fit =
            ap (merged_rows_from n (rows_of (e ∷ t))) (canon_here (effect.Mod cells))
            ∙ merged_rows_from_modify n cells e.1 (rows_of t) (canonical_entries_from (suc n) t effects) far
            ∙ ap (λ rs. set_cells cells e.1 ∷ rs) rest
            ∙ sym (ap rows_of (apply_here (effect.Mod cells) (set_cells cells e.1) refl))
        present_here (effect.Rep row) fit =
            ap (merged_rows_from n (rows_of (e ∷ t))) (canon_here (effect.Rep row))
            ∙ merged_rows_from_insert n row (rows_of (e ∷ t)) (entry_at n (Del e.0) ∷ canonical_entries_from (suc n) t effects)
            ∙ ap (λ rs. row ∷ rs) (merged_rows_from_delete n e.0 e.1 (rows_of t) (canonical_entries_from (suc n) t effects) far ∙ rest)
            ∙ sym (ap rows_of (apply_here (effect.Rep row) row refl))

-- all effects above the first row
patched_past : (n : ℕ) (e : Key × Row) (t : Table) (effects : Effects) → T (below_all key_cmp e.0 effects)
    → IsPatchedRight t (suc n) effects → IsPatchedRight (e ∷ t) n effects
patched_past n e t effects be rest =
    let lt : n < suc n = omega arith in
    ap (merged_rows_from n (rows_of (e ∷ t))) (canonical_entries_from_past n e t effects be)
    ∙ merged_rows_from_none n e.1 (rows_of t) (canonical_entries_from (suc n) t effects)
    (canonical_entries_from_after n (suc n) t effects lt)
    ∙ ap (λ rs. e.1 ∷ rs) rest
    ∙ sym (ap rows_of (alter_all_past key_cmp key_cmp_total row_after effects e t be))

patched_cons : (e : Key × Row) (t : Table) → T (below_all key_cmp e.0 t)
    → ((n : ℕ) (effects : Effects) → T (is_sorted key_cmp effects) → T (all_fit t effects) → IsPatchedRight t n effects)
    → (n : ℕ) (effects : Effects) → T (is_sorted key_cmp effects) → T (all_fit (e ∷ t) effects) → IsPatchedRight (e ∷ t) n effects
patched_cons e t bt rest n [] sorted fit = merged_rows_from_nothing n (rows_of (e ∷ t))
patched_cons e t bt rest n (x ∷ effects) sorted fit =
    elim (key_cmp x.0 e.0) as (λ r. key_cmp x.0 e.0 ≡ r → IsPatchedRight (e ∷ t) n (x ∷ effects)) [
      | Less ↦ λ p.
          let bt' : T (below_all key_cmp x.0 (e ∷ t)) =
          both _ _ (subst (λ r. T (is_lt r)) (sym p) tt) (below_less key_cmp_total x.0 e.0 t p bt) in
          absent_first n x.0 x.1 (e ∷ t) effects
          (subst (λ old. T (fits old x.1)) (find_below key_cmp_total x.0 (e ∷ t) bt') (first _ _ fit))
          bt' (first _ _ sorted) (patched_cons e t bt rest n effects (second _ _ sorted) (second _ _ fit))
      | Equal ↦ λ p.
          let same = key_cmp-IsAntisymmetric x.0 e.0 p in
          let be = subst (λ k. T (below_all key_cmp k effects)) same (first _ _ sorted) in
          let fit' = subst (λ k. T (fits (row_at (e ∷ t) k) x.1)) same (first _ _ fit) in
          subst (λ k. IsPatchedRight (e ∷ t) n ((k, x.1) ∷ effects)) (sym same)
          (present_here e t bt n effects be
          (rest (suc n) effects (second _ _ sorted) (subst T (all_fit_past e t effects be) (second _ _ fit)))
          x.1 (subst (λ old. T (fits old x.1)) (found_here e t) fit'))
      | Greater ↦ λ p.
          let lt = turn_greater key_cmp_total x.0 e.0 p in
          let be : T (below_all key_cmp e.0 (x ∷ effects)) =
          both _ _ (subst (λ r. T (is_lt r)) (sym lt) tt) (below_less key_cmp_total e.0 x.0 effects lt (first _ _ sorted)) in
          patched_past n e t (x ∷ effects) be (rest (suc n) (x ∷ effects) sorted (subst T (all_fit_past e t (x ∷ effects) be) fit))
    ] refl

patched : (t : Table) → T (is_sorted key_cmp t) → (n : ℕ) (effects : Effects) → T (is_sorted key_cmp effects)
    → T (all_fit t effects) → IsPatchedRight t n effects
patched [] st n effects sorted fit = patched_nil n effects sorted fit
patched (e ∷ t) st n effects sorted fit = patched_cons e t (first _ _ st) (patched t (second _ _ st)) n effects sorted fit

-- the rows patched by the entries of effects are those of the table after them
pub merged_rows-canonical_entries : (t : Table) (effects : Effects) → T (is_sorted key_cmp t) → T (is_sorted key_cmp effects)
    → T (all_fit t effects) → merged_rows (rows_of t) (canonical_entries t effects) ≡ rows_of (table_with t effects)
merged_rows-canonical_entries t effects st sorted fit =
    ap (merged_rows (rows_of t)) (sym (canonical_entries_from_zero t effects)) ∙ patched t st 0 effects sorted fit
