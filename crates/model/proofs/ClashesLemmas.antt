-- Two transactions clash where two of their entries do; and where they don't, each fits after the other.
use Rattle.std.proofs.Common.{◌≡◌, ◌≢◌, ℕ, suc, Bool, true, false, cond, ◌||◌, T, Option, Some, None, is_some, List, [], ◌∷◌, map, Less, Equal, Greater, is_eq, nat_cmp, refl, sym, ap, ◌∙◌, subst, arith, rules}
use Rattle.std.specs.Prelude.{◌==◌}
use Rattle.std.proofs.lemmas.Bool.Decides.{nat_tests}
use Rattle.std.proofs.lemmas.List.Folds.{list_any-append}
use Rattle.std.specs.Ordering.{eq_by_cmp}
use Rattle.std.specs.List.{list_all, list_any}
use Rattle.values.specs.Orders.{key_cmp, key_cmp_total, key_cmp-IsAntisymmetric}
use Rattle.values.specs.declared.row.Row.{Row}
use Rattle.values.specs.declared.row.Key.{Key}
use Rattle.values.specs.declared.value.Value.{Value}
use Rattle.model.specs.declared.entry.Entry.{Entry}
use Rattle.model.specs.declared.entry.Change.{Change}
use Rattle.model.specs.declared.entry.Change.TheVariants.{Ins, Del, Mod}
use Rattle.model.specs.declared.clash.ClashKind.{ClashKind}
use Rattle.model.specs.declared.clash.ClashKind.TheVariants.{InsertInsert, DeleteDelete, DeleteModify, ModifyModify}
use Rattle.model.specs.declared.clash.Clash.{Clash}
use Rattle.model.specs.declared.clash.ConflictRule.{ConflictRule}
use Rattle.model.specs.declared.clash.ConflictRule.TheVariants.{ByColumn, ByRow}
use Rattle.model.specs.Maps.{find, is_sorted}
use Rattle.model.specs.Table.{Table, row_at, rank}
use Rattle.values.specs.Shape.{key_of}
use Rattle.model.specs.Effects.{Cells, has_cells, Effects, is_keyed_effect, are_keyed_effects, fits, all_fit, row_after, table_with}
use Rattle.model.specs.declared.effect.Effect.{Effect}
use Rattle.model.specs.declared.effect.Effect.TheVariants as effect
use Rattle.model.specs.Entries.{entry_at, entries_of, canonical_entries}
use Rattle.model.specs.Clashes.{clashes, modifies_clash, conflicts}
use Rattle.model.specs.Rebasing.{clash_of_entries, or_clash, clash_with, or_else, first_clash_from, first_clash}
use Rattle.model.proofs.MapsLemmas.{both, first, second, turn_greater, holds_at, changed_by, each_at, find_below, below_tied, equal, left_false, right_false}
use Rattle.model.proofs.CompositionLemmas.{row_at-table_with}
use Rattle.model.proofs.RebasingLemmas.{is_placed, rank-lt}
use Rattle.model.proofs.EditsLemmas.{maybe_entries}
use Rattle.std.proofs.lemmas.Grind.{common_steps}

-- ---- each fits after the other

unclashed_at : (rule : ConflictRule) (f : Effect) (g : Option Effect) (old : Option Row) → T (fits old f) → T (holds_at (fits old) g) →
    clashes rule f g ≡ false → T (fits (changed_by row_after g old) f)
unclashed_at rule f None old p q free = p
unclashed_at rule (effect.Ins r) (Some (effect.Ins s)) old p q free = cc
unclashed_at rule (effect.Ins r) (Some effect.Del) old p q free = tt
unclashed_at rule (effect.Ins r) (Some (effect.Mod d)) None p q free = tt
unclashed_at rule (effect.Ins r) (Some (effect.Mod d)) (Some o) p q free = absurd p
unclashed_at rule (effect.Ins r) (Some (effect.Rep s)) None p q free = absurd q
unclashed_at rule (effect.Ins r) (Some (effect.Rep s)) (Some o) p q free = absurd p
unclashed_at rule effect.Del (Some (effect.Ins s)) old p q free = tt
unclashed_at rule effect.Del (Some effect.Del) old p q free = cc
unclashed_at rule effect.Del (Some (effect.Mod d)) old p q free = cc
unclashed_at rule effect.Del (Some (effect.Rep s)) old p q free = tt
unclashed_at rule (effect.Mod c) (Some (effect.Ins s)) old p q free = tt
unclashed_at rule (effect.Mod c) (Some effect.Del) old p q free = cc
unclashed_at rule (effect.Mod c) (Some (effect.Mod d)) None p q free = absurd q
unclashed_at rule (effect.Mod c) (Some (effect.Mod d)) (Some o) p q free = tt
unclashed_at rule (effect.Mod c) (Some (effect.Rep s)) old p q free = tt
unclashed_at rule (effect.Rep r) (Some (effect.Ins s)) old p q free = tt
unclashed_at rule (effect.Rep r) (Some effect.Del) old p q free = cc
unclashed_at rule (effect.Rep r) (Some (effect.Mod d)) old p q free = cc
unclashed_at rule (effect.Rep r) (Some (effect.Rep s)) old p q free = tt

pub all_fit-unclashed : (rule : ConflictRule) (t : Table) (x y : Effects) → T (is_sorted key_cmp y) → T (all_fit t x) → T (all_fit t y) →
    conflicts rule x y ≡ false → T (all_fit (table_with t y) x)
all_fit-unclashed rule t [] y hy fx fy free = tt
all_fit-unclashed rule t (e ∷ x) y hy fx fy free =
    let head =
    unclashed_at rule e.1 (find key_cmp e.0 y) (row_at t e.0) (first _ _ fx)
    (each_at key_cmp key_cmp_total key_cmp-IsAntisymmetric (λ k f. fits (row_at t k) f) y fy e.0)
    (left_false (clashes rule e.1 (find key_cmp e.0 y)) _ free) in
    both _ _ (subst (λ old. T (fits old e.1)) (sym (row_at-table_with t y e.0 hy)) head)
    (all_fit-unclashed rule t x y hy (second _ _ fx) fy (right_false (clashes rule e.1 (find key_cmp e.0 y)) _ free))

-- ---- the first clash is there where some pair clashes

module _ (rule : ConflictRule) (key_cols : ℕ) where
  abbrev do_clash : Entry → Entry → Bool
  do_clash x y = is_some (clash_of_entries rule key_cols x y)

  abbrev clashes_with : List Entry → Entry → Bool
  clashes_with ys x = list_any (do_clash x) ys

  is_some-or_clash : (i j : ℕ) (kind : Option ClashKind) (other : Option Clash)
      → is_some (or_clash i j kind other) ≡ (is_some kind || is_some other)
  is_some-or_clash i j None other = refl
  is_some-or_clash i j (Some kind) other = refl

  is_some-or_else : (a b : Option Clash) → is_some (or_else a b) ≡ (is_some a || is_some b)
  is_some-or_else None b = refl
  is_some-or_else (Some a) b = refl

  is_some-clash_with : (i : ℕ) (x : Entry) (j : ℕ) (ys : List Entry) → is_some (clash_with rule key_cols i x j ys) ≡ clashes_with ys x
  is_some-clash_with i x j [] = refl
  is_some-clash_with i x j (y ∷ ys) = grind (arith, common_steps, is_some-clash_with i x (suc j) ys, is_some-or_clash)

  is_some-first_clash : (i : ℕ) (xs ys : List Entry) → is_some (first_clash_from rule key_cols i xs ys) ≡ list_any (clashes_with ys) xs
  is_some-first_clash i [] ys = refl
  is_some-first_clash i (x ∷ xs) ys = grind (arith, common_steps, is_some-first_clash (suc i) xs ys, is_some-clash_with, is_some-or_else)

  -- ---- entries of different keys don't clash

  module _ (t : Table) where
    same_key : (j : Key) (row : Row) → T (eq_by_cmp key_cmp j (key_of key_cols row)) → key_of key_cols row ≡ j
    same_key j row h = sym (key_cmp-IsAntisymmetric j (key_of key_cols row) (equal _ h))

    other_rank : (k j : Key) → eq_by_cmp key_cmp k j ≡ false → T (is_some (row_at t k)) → T (is_some (row_at t j))
        → (rank k t == rank j t) ≡ false
    other_rank k j ne hk hj =
        elim (key_cmp k j) as (λ r. key_cmp k j ≡ r → (rank k t == rank j t) ≡ false) [
          | Less ↦ λ p. let lt = rank-lt k j t p hk in differ (rank k t) (rank j t) (λ e. omega arith)
          | Equal ↦ λ p. absurd (subst T (sym (ap is_eq p) ∙ ne) tt)
          | Greater ↦ λ p. let lt = rank-lt j k t (turn_greater key_cmp_total k j p) hj in differ (rank k t) (rank j t) (λ e. omega arith)
        ] refl
      where
        differ : (n m : ℕ) → n ≢ m → (n == m) ≡ false
        differ n m h = grind (arith, nat_tests)

    apart : (k j : Key) (c d : Change) → eq_by_cmp key_cmp k j ≡ false → T (is_placed key_cols t k c)
        → T (is_placed key_cols t j d) → do_clash (entry_at (rank k t) c) (entry_at (rank j t) d) ≡ false
    apart k j (Ins row) (Ins other) ne hc hd = grind (arith, common_steps, same_key)
    apart k j (Ins row) (Del key) ne hc hd = refl
    apart k j (Ins row) (Mod col value) ne hc hd = refl
    apart k j (Del key) (Ins row) ne hc hd = refl
    apart k j (Mod col value) (Ins row) ne hc hd = refl
    apart k j (Del key) (Del other) ne hc hd = ap (λ b. is_some (cond b (Some DeleteDelete) None)) (other_rank k j ne hc hd)
    apart k j (Del key) (Mod col value) ne hc hd = ap (λ b. is_some (cond b (Some DeleteModify) None)) (other_rank k j ne hc hd)
    apart k j (Mod col value) (Del key) ne hc hd = ap (λ b. is_some (cond b (Some DeleteModify) None)) (other_rank k j ne hc hd)
    apart k j (Mod col value) (Mod other w) ne hc hd = grind (arith, common_steps, other_rank)

    module _ (k : Key) (c : Change) (hc : T (is_placed key_cols t k c)) where
      abbrev x : Entry
      x = entry_at (rank k t) c

      none_of_cells : (j : Key) (cells : Cells) → eq_by_cmp key_cmp k j ≡ false → T (is_some (row_at t j))
          → list_any (do_clash x) (map (λ d. entry_at (rank j t) (Mod d.0 d.1)) cells) ≡ false
      none_of_cells j [] ne hj = refl
      none_of_cells j (d ∷ cells) ne hj = grind (arith, common_steps, none_of_cells j cells ne hj, apart)

      none_of : (j : Key) (g : Effect) → eq_by_cmp key_cmp k j ≡ false → T (is_keyed_effect key_cols j g)
          → T (fits (row_at t j) g) → list_any (do_clash x) (entries_of (rank j t) j g) ≡ false
      none_of j (effect.Ins row) ne he hf = ap (λ b. b || false) (apart k j c (Ins row) ne hc he)
      none_of j effect.Del ne he hf = ap (λ b. b || false) (apart k j c (Del j) ne hc hf)
      none_of j (effect.Mod cells) ne he hf = none_of_cells j cells ne hf
      none_of j (effect.Rep row) ne he hf = (λ i. apart k j c (Ins row) ne hc he i || (apart k j c (Del j) ne hc hf i || false))

      -- only the other's effect on the same key matters
      only_here : (y : Effects) → T (is_sorted key_cmp y) → T (list_all (λ e. is_keyed_effect key_cols e.0 e.1) y)
          → T (all_fit t y)
          → clashes_with (canonical_entries t y) x ≡ clashes_with (maybe_entries (rank k t) k (find key_cmp k y)) x
      only_here [] hs he hf = refl
      only_here (e ∷ y) hs he hf =
          list_any-append (do_clash x) (entries_of (rank e.0 t) e.0 e.1) (canonical_entries t y)
          ∙ elim (eq_by_cmp key_cmp k e.0) as (λ b. eq_by_cmp key_cmp k e.0 ≡ b
          → (list_any (do_clash x) (entries_of (rank e.0 t) e.0 e.1) || clashes_with (canonical_entries t y) x)
          ≡ clashes_with (maybe_entries (rank k t) k (cond b (Some e.1) (find key_cmp k y))) x) [
            | true ↦ λ q.
                let tie = equal _ (subst T (sym q) tt) in
                let same = key_cmp-IsAntisymmetric k e.0 tie in
                let nothing = find_below key_cmp_total k y (below_tied key_cmp key_cmp_total k e.0 y tie (first _ _ hs)) in
                let tail =
                only_here y (second _ _ hs) (second _ _ he) (second _ _ hf)
                ∙ ap (λ o. clashes_with (maybe_entries (rank k t) k o) x) nothing in
                (λ i. list_any (do_clash x) (entries_of (rank (sym same i) t) (sym same i) e.1) || tail i)
                ∙ or_none (list_any (do_clash x) (entries_of (rank k t) k e.1))
            | false ↦ λ q. ap (λ b. b || clashes_with (canonical_entries t y) x) (none_of e.0 e.1 q (first _ _ he) (first _ _ hf))
                ∙ only_here y (second _ _ hs) (second _ _ he) (second _ _ hf)
          ] refl
        where
          or_none : (b : Bool) → (b || false) ≡ b
          or_none true = refl
          or_none false = refl

  -- ---- two effects on one key

  same_number : (n : ℕ) → (n == n) ≡ true
  same_number n = grind (arith, nat_tests)

  same_tests : (c d : ℕ) → (c == d) ≡ is_eq (nat_cmp c d)
  same_tests c d = search rules

  abbrev mods : ℕ → Cells → List Entry
  mods n cells = map (λ c. entry_at n (Mod c.0 c.1)) cells

  found_or : {X : Type 0} (b : Bool) (v : X) (rest : Option X) → is_some (cond b (Some v) rest) ≡ (b || is_some rest)
  found_or true v rest = refl
  found_or false v rest = refl

  kind_or : (b : Bool) → is_some (cond b (Some ModifyModify) None) ≡ b
  kind_or true = refl
  kind_or false = refl

  -- modifies of cells against the others, by the test of their columns
  cell_clash : (n : ℕ) (c : ℕ × Value) (others : Cells) → rule ≡ ByColumn →
      clashes_with (mods n others) (entry_at n (Mod c.0 c.1)) ≡ is_some (find nat_cmp c.0 others)
  cell_clash n c [] by = refl
  cell_clash n c (d ∷ others) by = grind (arith, common_steps, cell_clash n c others by, kind_or, same_number, same_tests, found_or, is_eq, nat_cmp)

  cells_clash : (n : ℕ) (cells others : Cells) → rule ≡ ByColumn →
      list_any (clashes_with (mods n others)) (mods n cells) ≡ list_any (λ c. is_some (find nat_cmp c.0 others)) cells
  cells_clash n [] others by = refl
  cells_clash n (c ∷ cells) others by = grind (arith, common_steps, cells_clash n cells others by, cell_clash)

  -- by row the first of each clash
  rows_clash : (n : ℕ) (cells others : Cells) → rule ≡ ByRow → T (has_cells cells) → T (has_cells others) →
      list_any (clashes_with (mods n others)) (mods n cells) ≡ true
  rows_clash n [] others by p q = absurd p
  rows_clash n (c ∷ cells) [] by p q = absurd q
  rows_clash n (c ∷ cells) (d ∷ others) by p q = search rules

  -- modifies on one key clash where two of their entries do
  mods_clash : (n : ℕ) (cells others : Cells) → T (has_cells cells) → T (has_cells others) →
      list_any (clashes_with (mods n others)) (mods n cells) ≡ modifies_clash rule cells others
  mods_clash n cells others p q = grind (arith, common_steps, cells_clash, rows_clash)

  keys_tie : (k : Key) (row other : Row) → T (eq_by_cmp key_cmp k (key_of key_cols row))
      → T (eq_by_cmp key_cmp k (key_of key_cols other)) → eq_by_cmp key_cmp (key_of key_cols row) (key_of key_cols other) ≡ true
  keys_tie k row other p q = grind (arith, common_steps, same_key, is_eq)

  -- a clash of the effects is one of their entries
  effects_clash : (n : ℕ) (k : Key) (f : Effect) (g : Option Effect) (old : Option Row) → T (is_keyed_effect key_cols k f) →
      T (holds_at (is_keyed_effect key_cols k) g) → T (fits old f) → T (holds_at (fits old) g) →
      list_any (clashes_with (maybe_entries n k g)) (entries_of n k f) ≡ clashes rule f g
  effects_clash n k (effect.Ins row) None old kf kg p q = refl
  effects_clash n k effect.Del None old kf kg p q = refl
  effects_clash n k (effect.Mod cells) None old kf kg p q = none cells
    where
      none : (cells : Cells) → list_any (clashes_with []) (mods n cells) ≡ false
      none [] = refl
      none (c ∷ cells) = none cells
  effects_clash n k (effect.Rep row) None old kf kg p q = refl
  effects_clash n k (effect.Ins row) (Some (effect.Ins other)) old kf kg p q =
      ap (λ b. (is_some (cond b (Some InsertInsert) None) || false) || false) (keys_tie k row other kf kg)
  effects_clash n k (effect.Ins row) (Some effect.Del) None kf kg p q = absurd q
  effects_clash n k (effect.Ins row) (Some effect.Del) (Some o) kf kg p q = absurd p
  effects_clash n k (effect.Ins row) (Some (effect.Mod others)) None kf kg p q = absurd q
  effects_clash n k (effect.Ins row) (Some (effect.Mod others)) (Some o) kf kg p q = absurd p
  effects_clash n k (effect.Ins row) (Some (effect.Rep other)) None kf kg p q = absurd q
  effects_clash n k (effect.Ins row) (Some (effect.Rep other)) (Some o) kf kg p q = absurd p
  effects_clash n k effect.Del (Some (effect.Ins other)) None kf kg p q = absurd p
  effects_clash n k effect.Del (Some (effect.Ins other)) (Some o) kf kg p q = absurd q
  effects_clash n k effect.Del (Some effect.Del) old kf kg p q =
      ap (λ b. (is_some (cond b (Some DeleteDelete) None) || false) || false) (same_number n)
  effects_clash n k effect.Del (Some (effect.Mod [])) old kf kg p q = absurd kg
  effects_clash n k effect.Del (Some (effect.Mod (d ∷ others))) old kf kg p q =
      ap (λ b. (is_some (cond b (Some DeleteModify) None) || list_any (do_clash (entry_at n (Del k))) (mods n others)) || false)
      (same_number n)
  effects_clash n k effect.Del (Some (effect.Rep other)) old kf kg p q =
      ap (λ b. (is_some (cond b (Some DeleteDelete) None) || false) || false) (same_number n)
  effects_clash n k (effect.Mod cells) (Some (effect.Ins other)) None kf kg p q = absurd p
  effects_clash n k (effect.Mod cells) (Some (effect.Ins other)) (Some o) kf kg p q = absurd q
  effects_clash n k (effect.Mod []) (Some effect.Del) old kf kg p q = absurd kf
  effects_clash n k (effect.Mod (c ∷ cells)) (Some effect.Del) old kf kg p q =
      ap (λ b. (is_some (cond b (Some DeleteModify) None) || false)
      || list_any (clashes_with (entry_at n (Del k) ∷ [])) (mods n cells)) (same_number n)
  effects_clash n k (effect.Mod cells) (Some (effect.Mod others)) old kf kg p q = mods_clash n cells others (first _ _ kf) (first _ _ kg)
  effects_clash n k (effect.Mod []) (Some (effect.Rep other)) old kf kg p q = absurd kf
  effects_clash n k (effect.Mod (c ∷ cells)) (Some (effect.Rep other)) old kf kg p q =
      ap (λ b. (is_some (cond b (Some DeleteModify) None) || false)
      || list_any (clashes_with (entry_at n (Ins other) ∷ entry_at n (Del k) ∷ [])) (mods n cells)) (same_number n)
  effects_clash n k (effect.Rep row) (Some (effect.Ins other)) None kf kg p q = absurd p
  effects_clash n k (effect.Rep row) (Some (effect.Ins other)) (Some o) kf kg p q = absurd q
  effects_clash n k (effect.Rep row) (Some effect.Del) old kf kg p q =
      ap (λ b. (is_some (cond b (Some DeleteDelete) None) || false) || false) (same_number n)
  effects_clash n k (effect.Rep row) (Some (effect.Mod [])) old kf kg p q = absurd kg
  effects_clash n k (effect.Rep row) (Some (effect.Mod (d ∷ others))) old kf kg p q = search rules
  effects_clash n k (effect.Rep row) (Some (effect.Rep other)) old kf kg p q =
      ap (λ b. (is_some (cond b (Some InsertInsert) None) || (false || false))
      || ((false || (is_some (cond (n == n) (Some DeleteDelete) None) || false)) || false)) (keys_tie k row other kf kg)

  -- ---- all effects

  module _ (t : Table) (y : Effects) (hy : T (are_keyed_effects key_cols y)) (fy : T (all_fit t y)) where
    to_here : (k : Key) (c : Change) → T (is_placed key_cols t k c)
        → clashes_with (canonical_entries t y) (entry_at (rank k t) c)
        ≡ clashes_with (maybe_entries (rank k t) k (find key_cmp k y)) (entry_at (rank k t) c)
    to_here k c hc = only_here t k c hc y (first _ _ hy) (second _ _ hy) fy

    cells_here : (k : Key) (cells : Cells) → T (is_some (row_at t k))
        → list_any (clashes_with (canonical_entries t y)) (mods (rank k t) cells)
        ≡ list_any (clashes_with (maybe_entries (rank k t) k (find key_cmp k y))) (mods (rank k t) cells)
    cells_here k [] h = refl
    cells_here k (c ∷ cells) h = let head = to_here k (Mod c.0 c.1) h in let rest = cells_here k cells h in λ i. head i || rest i

    effect_here : (k : Key) (f : Effect) → T (is_keyed_effect key_cols k f) → T (fits (row_at t k) f)
        → list_any (clashes_with (canonical_entries t y)) (entries_of (rank k t) k f)
        ≡ list_any (clashes_with (maybe_entries (rank k t) k (find key_cmp k y))) (entries_of (rank k t) k f)
    effect_here k (effect.Ins row) he hf = ap (λ b. b || false) (to_here k (Ins row) he)
    effect_here k effect.Del he hf = ap (λ b. b || false) (to_here k (Del k) hf)
    effect_here k (effect.Mod cells) he hf = cells_here k cells hf
    effect_here k (effect.Rep row) he hf =
        let head = to_here k (Ins row) he in let rest = to_here k (Del k) hf in λ i. head i || (rest i || false)

    all_here : (x : Effects) → T (list_all (λ e. is_keyed_effect key_cols e.0 e.1) x) → T (all_fit t x) →
        list_any (clashes_with (canonical_entries t y)) (canonical_entries t x) ≡ conflicts rule x y
    all_here [] he hf = refl
    all_here (e ∷ x) he hf =
        let head =
        effect_here e.0 e.1 (first _ _ he) (first _ _ hf)
        ∙ effects_clash (rank e.0 t) e.0 e.1 (find key_cmp e.0 y) (row_at t e.0) (first _ _ he)
        (each_at key_cmp key_cmp_total key_cmp-IsAntisymmetric (is_keyed_effect key_cols) y (second _ _ hy) e.0) (first _ _ hf)
        (each_at key_cmp key_cmp_total key_cmp-IsAntisymmetric (λ k f. fits (row_at t k) f) y fy e.0) in
        let rest = all_here x (second _ _ he) (second _ _ hf) in
        list_any-append (clashes_with (canonical_entries t y)) (entries_of (rank e.0 t) e.0 e.1) (canonical_entries t x) ∙ λ i.
        head i || rest i

  -- two transactions clash just where a first clash of their entries is found
  pub first_clash-canonical_entries : (t : Table) (x y : Effects) → T (are_keyed_effects key_cols x) → T (are_keyed_effects key_cols y) →
      T (all_fit t x) → T (all_fit t y) → is_some (first_clash rule key_cols (canonical_entries t x) (canonical_entries t y))
      ≡ conflicts rule x y
  first_clash-canonical_entries t x y hx hy fx fy =
      is_some-first_clash 0 (canonical_entries t x) (canonical_entries t y) ∙ all_here t y hy fy x (second _ _ hx) fx
