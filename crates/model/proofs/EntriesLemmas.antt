-- The entries of lawful effects stand in order.
use Rattle.std.proofs.Common.{◌≡◌, ℕ, Bool, T, is_some, List, [], ◌∷◌, ◌++◌, map, Ordering, Less, is_lt, nat_cmp, sym, ap, subst, arith}
use Rattle.std.specs.Ordering.{ordering_then}
use Rattle.std.specs.List.{list_all}
use Rattle.std.specs.Cmp.{tied_itself, nat_cmp_total}
use Rattle.std.specs.FinMap.Entries.{below_all}
use Rattle.values.specs.Orders.{key_cmp}
use Rattle.values.specs.declared.row.Key.{Key}
use Rattle.values.specs.declared.value.Value.{Value}
use Rattle.model.specs.declared.entry.Entry.{Entry}
use Rattle.model.specs.declared.entry.Change.{Change}
use Rattle.model.specs.declared.entry.Change.TheVariants.{Ins, Del, Mod}
use Rattle.model.specs.Maps.{is_sorted}
use Rattle.model.specs.Table.{Table, row_at, rank}
use Rattle.model.specs.Effects.{Cells, Effects, is_keyed_effect, are_keyed_effects, fits, all_fit}
use Rattle.model.specs.declared.effect.Effect.{Effect}
use Rattle.model.specs.declared.effect.Effect.TheVariants as effect
use Rattle.model.specs.Entries.{entry_at, entries_of, canonical_entries, entry_cmp, are_ordered}
use Rattle.model.proofs.MapsLemmas.{both, first, second, less}
use Rattle.model.proofs.RebasingLemmas.{is_placed}
use Rattle.model.proofs.EditsLemmas.{entry-less}
use Rattle.std.proofs.lemmas.Grind.{common_steps}

module _ (key_cols : ℕ) where
  abbrev stands_before : Entry → Entry → Bool
  stands_before x y = is_lt (entry_cmp key_cols x y)

  abbrev before_all : Entry → List Entry → Bool
  before_all x ys = list_all (stands_before x) ys

  abbrev all_before : List Entry → List Entry → Bool
  all_before xs ys = list_all (λ x. before_all x ys) xs

  before_append : (x : Entry) (ys zs : List Entry) → T (before_all x ys) → T (before_all x zs) → T (before_all x (ys ++ zs))
  before_append x [] zs p q = q
  before_append x (y ∷ ys) zs p q = both _ _ (first _ _ p) (before_append x ys zs (second _ _ p) q)

  ordered_append : (xs ys : List Entry) → T (are_ordered key_cols xs) → T (are_ordered key_cols ys) → T (all_before xs ys)
      → T (are_ordered key_cols (xs ++ ys))
  ordered_append [] ys hx hy h = hy
  ordered_append (x ∷ xs) ys hx hy h =
      both _ _ (before_append x xs ys (first _ _ hx) (first _ _ h)) (ordered_append xs ys (second _ _ hx) hy (second _ _ h))

  module _ (t : Table) where
    stands : (j k : Key) (y c : Change) → key_cmp j k ≡ Less → T (is_placed key_cols t j y) → T (is_placed key_cols t k c)
        → T (stands_before (entry_at (rank j t) y) (entry_at (rank k t) c))
    stands j k y c p hy hc = subst (λ r. T (is_lt r)) (sym (entry-less key_cols t j k y c p hy hc)) tt

    before_cells : (j k : Key) (y : Change) (cells : Cells) → key_cmp j k ≡ Less → T (is_placed key_cols t j y)
        → T (is_some (row_at t k)) → T (before_all (entry_at (rank j t) y) (map (λ c. entry_at (rank k t) (Mod c.0 c.1)) cells))
    before_cells j k y [] p hy hk = tt
    before_cells j k y (c ∷ cells) p hy hk = both _ _ (stands j k y (Mod c.0 c.1) p hy hk) (before_cells j k y cells p hy hk)

    before_effect : (j k : Key) (y : Change) (f : Effect) → key_cmp j k ≡ Less → T (is_placed key_cols t j y)
        → T (is_keyed_effect key_cols k f) → T (fits (row_at t k) f)
        → T (before_all (entry_at (rank j t) y) (entries_of (rank k t) k f))
    before_effect j k y (effect.Ins row) p hy he hf = both _ _ (stands j k y (Ins row) p hy he) tt
    before_effect j k y effect.Del p hy he hf = both _ _ (stands j k y (Del k) p hy hf) tt
    before_effect j k y (effect.Mod cells) p hy he hf = before_cells j k y cells p hy hf
    before_effect j k y (effect.Rep row) p hy he hf = both _ _ (stands j k y (Ins row) p hy he) (both _ _ (stands j k y (Del k) p hy hf) tt)

    before_rest : (j : Key) (y : Change) (x : Effects) → T (below_all key_cmp j x) → T (is_placed key_cols t j y)
        → T (list_all (λ e. is_keyed_effect key_cols e.0 e.1) x) → T (all_fit t x)
        → T (before_all (entry_at (rank j t) y) (canonical_entries t x))
    before_rest j y [] h hy he hf = tt
    before_rest j y (e ∷ x) h hy he hf =
        before_append (entry_at (rank j t) y) (entries_of (rank e.0 t) e.0 e.1) (canonical_entries t x)
        (before_effect j e.0 y e.1 (less _ (first _ _ h)) hy (first _ _ he) (first _ _ hf))
        (before_rest j y x (second _ _ h) hy (second _ _ he) (second _ _ hf))

    cells_before : (k : Key) (cells : Cells) (x : Effects) → T (below_all key_cmp k x) → T (is_some (row_at t k))
        → T (list_all (λ e. is_keyed_effect key_cols e.0 e.1) x) → T (all_fit t x)
        → T (all_before (map (λ c. entry_at (rank k t) (Mod c.0 c.1)) cells) (canonical_entries t x))
    cells_before k [] x h hk he hf = tt
    cells_before k (c ∷ cells) x h hk he hf = both _ _ (before_rest k (Mod c.0 c.1) x h hk he hf) (cells_before k cells x h hk he hf)

    effect_before : (k : Key) (f : Effect) (x : Effects) → T (below_all key_cmp k x) → T (is_keyed_effect key_cols k f)
        → T (fits (row_at t k) f) → T (list_all (λ e. is_keyed_effect key_cols e.0 e.1) x) → T (all_fit t x)
        → T (all_before (entries_of (rank k t) k f) (canonical_entries t x))
    effect_before k (effect.Ins row) x h he1 hf1 he hf = both _ _ (before_rest k (Ins row) x h he1 he hf) tt
    effect_before k effect.Del x h he1 hf1 he hf = both _ _ (before_rest k (Del k) x h hf1 he hf) tt
    effect_before k (effect.Mod cells) x h he1 hf1 he hf = cells_before k cells x h hf1 he hf
    effect_before k (effect.Rep row) x h he1 hf1 he hf =
        both _ _ (before_rest k (Ins row) x h he1 he hf) (both _ _ (before_rest k (Del k) x h hf1 he hf) tt)

  -- ---- the entries of one effect

  level : (n : ℕ) (o : Ordering) → ordering_then (nat_cmp n n) o ≡ o
  level n o = ap (λ r. ordering_then r o) (tied_itself nat_cmp_total n)

  cell_before : (n : ℕ) (c : ℕ × Value) (cells : Cells) → T (below_all nat_cmp c.0 cells)
      → T (before_all (entry_at n (Mod c.0 c.1)) (map (λ d. entry_at n (Mod d.0 d.1)) cells))
  cell_before n c [] h = tt
  cell_before n c (d ∷ cells) h =
      both _ _ (subst (λ r. T (is_lt r)) (sym (level n (nat_cmp c.0 d.0))) (first (is_lt (nat_cmp c.0 d.0)) _ h))
      (cell_before n c cells (second _ _ h))

  cells_ordered : (n : ℕ) (cells : Cells) → T (is_sorted nat_cmp cells)
      → T (are_ordered key_cols (map (λ d. entry_at n (Mod d.0 d.1)) cells))
  cells_ordered n [] h = tt
  cells_ordered n (c ∷ cells) h = both _ _ (cell_before n c cells (first _ _ h)) (cells_ordered n cells (second _ _ h))

  effect_ordered : (n : ℕ) (k : Key) (f : Effect) → T (is_keyed_effect key_cols k f) → T (are_ordered key_cols (entries_of n k f))
  effect_ordered n k (effect.Ins row) h = tt
  effect_ordered n k effect.Del h = tt
  effect_ordered n k (effect.Mod cells) h = grind (arith, common_steps, nat_cmp, second, cells_ordered, first)
  effect_ordered n k (effect.Rep row) h = grind (arith, common_steps, both, level)

  all_ordered : (t : Table) (x : Effects) → T (is_sorted key_cmp x) → T (list_all (λ e. is_keyed_effect key_cols e.0 e.1) x)
      → T (all_fit t x) → T (are_ordered key_cols (canonical_entries t x))
  all_ordered t [] hs he hf = tt
  all_ordered t (e ∷ x) hs he hf =
      ordered_append (entries_of (rank e.0 t) e.0 e.1) (canonical_entries t x) (effect_ordered (rank e.0 t) e.0 e.1 (first _ _ he))
      (all_ordered t x (second _ _ hs) (second _ _ he) (second _ _ hf))
      (effect_before t e.0 e.1 x (first _ _ hs) (first _ _ he) (first _ _ hf) (second _ _ he) (second _ _ hf))

  -- the entries of lawful effects stand in order
  pub ordered-canonical_entries : (t : Table) (x : Effects) → T (are_keyed_effects key_cols x) → T (all_fit t x)
      → T (are_ordered key_cols (canonical_entries t x))
  ordered-canonical_entries t x hx hf = all_ordered t x (first _ _ hx) (second _ _ hx) hf
