-- A transaction's entries, moved over another's that it doesn't clash with, are its entries over the other's table.
use Rattle.std.proofs.Common.{◌≡◌, ℕ, ◌+◌, ◌-◌, ◌<◌, ◌≤◌, Bool, true, false, cond, ◌&&◌, ◌||◌, T, Option, Some, None, is_some, List, [], ◌∷◌, ◌++◌, map, length, filter, Less, Equal, Greater, is_lt, is_eq, refl, sym, ap, ◌∙◌, subst, arith, length-append}
use Rattle.std.specs.Prelude.{◌==◌, nat_lt}
use Rattle.std.proofs.lemmas.Bool.Decides.{nat_tests}
use Rattle.std.proofs.lemmas.List.Elements.{filter-append}
use Rattle.std.proofs.lemmas.List.{map-append}
use Rattle.std.specs.Ordering.{eq_by_cmp}
use Rattle.std.specs.List.{list_all}
use Rattle.std.specs.Cmp.{tied_itself}
use Rattle.values.specs.Orders.{key_cmp, key_cmp_total, key_cmp-IsAntisymmetric}
use Rattle.values.specs.declared.row.Row.{Row}
use Rattle.values.specs.declared.row.Key.{Key}
use Rattle.model.specs.declared.entry.Entry.{Entry}
use Rattle.model.specs.declared.entry.Change.{Change}
use Rattle.model.specs.declared.entry.Change.TheVariants.{Ins, Del, Mod}
use Rattle.model.specs.Maps.{find, is_sorted}
use Rattle.model.specs.Table.{Table, row_at, rank}
use Rattle.values.specs.Shape.{key_of}
use Rattle.model.specs.Effects.{Cells, Effects, is_keyed_effect, are_keyed_effects, fits, all_fit, table_with}
use Rattle.model.specs.declared.effect.Effect.{Effect}
use Rattle.model.specs.declared.effect.Effect.TheVariants as effect
use Rattle.model.specs.Entries.{entry_at, entries_of, canonical_entries}
use Rattle.model.specs.declared.clash.ConflictRule.{ConflictRule}
use Rattle.model.specs.Clashes.{clashes, conflicts}
use Rattle.model.specs.Rebasing.{stands_first, inserts_before, deletes_before, rebased_entry, rebased_entries}
use Rattle.model.proofs.MapsLemmas.{both, first, second, less, turn_greater, holds_at, each_at, find_below, below_tied, equal, same_key, left_false, right_false}
use Rattle.model.proofs.RankLemmas.{is_below, one_if, rank-cons, inserts_of, deletes_of, sum_below, rank-table_with}
use Rattle.std.proofs.lemmas.Grind.{common_steps}

-- ---- ranks of greater keys

below_both : (x j k : Key) → key_cmp j k ≡ Less → T (is_below x j) → T (is_below x k)
below_both x j k p h = subst (λ r. T (is_lt r)) (sym (key_cmp_total.trans x j k (less _ h) p)) tt

one_le : (a b : Bool) → (T a → T b) → one_if a ≤ one_if b
one_le true true f = omega arith
one_le true false f = absurd (f tt)
one_le false b f = omega arith

-- of two keys the smaller has no greater rank
pub rank-le : (j k : Key) (t : Table) → key_cmp j k ≡ Less → rank j t ≤ rank k t
rank-le j k [] p = omega arith
rank-le j k (e ∷ t) p = grind (arith, common_steps, rank-le j k t p, one_le, is_below, below_both, rank-cons)

-- of two keys the smaller has the lower rank where it is in the table
pub rank-lt : (j k : Key) (t : Table) → key_cmp j k ≡ Less → T (is_some (row_at t j)) → rank j t < rank k t
rank-lt j k [] p h = absurd h
rank-lt j k (e ∷ t) p h =
    elim (eq_by_cmp key_cmp j e.0) as
    (λ b. eq_by_cmp key_cmp j e.0 ≡ b → T (is_some (cond b (Some e.1) (row_at t j))) → rank j (e ∷ t) < rank k (e ∷ t)) [
      | true ↦ λ q _.
          let same = key_cmp-IsAntisymmetric j e.0 (equal _ (subst T (sym q) tt)) in
          let low : one_if (is_below e.0 j) ≡ 0 =
          ap (λ x. one_if (is_below x j)) (sym same) ∙ ap (λ r. one_if (is_lt r)) (tied_itself key_cmp_total j) in
          let high : one_if (is_below e.0 k) ≡ 1 = ap (λ x. one_if (is_below x k)) (sym same) ∙ ap (λ r. one_if (is_lt r)) p in
          let rest = rank-le j k t p in
          omega (arith, rank-cons j e t, rank-cons k e t)
      | false ↦ λ q g.
          let head = one_le (is_below e.0 j) (is_below e.0 k) (below_both e.0 j k p) in
          let rest = rank-lt j k t p g in
          omega (arith, rank-cons j e t, rank-cons k e t)
    ] refl h

-- ---- an entry against an entry

up_test : (a b : ℕ) (f : Bool) → a ≤ b → f ≡ true → (nat_lt a b || ((a == b) && f)) ≡ true
up_test a b f le is = grind (arith, nat_tests)

level_test : (a b : ℕ) (f : Bool) → b ≤ a → f ≡ false → (nat_lt a b || ((a == b) && f)) ≡ false
level_test a b f le is = grind (arith, nat_tests)

down_test : (a b : ℕ) (f : Bool) → b < a → (nat_lt a b || ((a == b) && f)) ≡ false
down_test a b f lt = grind (arith, nat_tests)

lt_test : (a b : ℕ) → a < b → nat_lt a b ≡ true
lt_test a b lt = grind (arith, nat_tests)

ge_test : (a b : ℕ) → b ≤ a → nat_lt a b ≡ false
ge_test a b le = grind (arith, nat_tests)

module _ (key_cols : ℕ) (t : Table) where
  -- whether the change may stand at the place of the key
  abbrev pub is_placed : Key → Change → Bool
  is_placed k (Ins row) = eq_by_cmp key_cmp k (key_of key_cols row)
  is_placed k (Del key) = is_some (row_at t k)
  is_placed k (Mod col value) = is_some (row_at t k)

  first_test : (j k : Key) (row other : Row) → T (eq_by_cmp key_cmp j (key_of key_cols row))
      → T (eq_by_cmp key_cmp k (key_of key_cols other)) → stands_first key_cols (Ins row) (Ins other) ≡ is_below j k
  first_test j k row other p q = grind (arith, common_steps, same_key, is_below)

  -- an insert of another key stands before a placed change where its key is smaller
  insert_test : (j k : Key) (row : Row) (c : Change) → T (eq_by_cmp key_cmp j (key_of key_cols row)) → T (is_placed k c)
      → (T (eq_by_cmp key_cmp k j) → ⊥)
      → inserts_before key_cols (entry_at (rank k t) c) (entry_at (rank j t) (Ins row)) ≡ is_below j k
  insert_test j k row c p here other =
      elim (key_cmp j k) as
      (λ r. key_cmp j k ≡ r → inserts_before key_cols (entry_at (rank k t) c) (entry_at (rank j t) (Ins row)) ≡ is_lt r) [
        | Less ↦ λ q. up_test (rank j t) (rank k t) (stands_first key_cols (Ins row) c) (rank-le j k t q) (above c here q)
        | Equal ↦ λ q. absurd (other (subst (λ x. T (eq_by_cmp key_cmp k x)) (sym (key_cmp-IsAntisymmetric j k q))
            (subst (λ r. T (is_eq r)) (sym (tied_itself key_cmp_total k)) tt)))
        | Greater ↦ λ q. under c here q
      ] refl
    where
      above : (c : Change) → T (is_placed k c) → key_cmp j k ≡ Less → stands_first key_cols (Ins row) c ≡ true
      above (Ins new) here q = first_test j k row new p here ∙ ap is_lt q
      above (Del key) here q = refl
      above (Mod col value) here q = refl

      under : (c : Change) → T (is_placed k c) → key_cmp j k ≡ Greater
          → inserts_before key_cols (entry_at (rank k t) c) (entry_at (rank j t) (Ins row)) ≡ false
      under (Ins new) here q =
          level_test (rank j t) (rank k t) (stands_first key_cols (Ins row) (Ins new))
          (rank-le k j t (turn_greater key_cmp_total j k q)) (first_test j k row new p here ∙ ap is_lt q)
      under (Del key) here q = down_test (rank j t) (rank k t) true (rank-lt k j t (turn_greater key_cmp_total j k q) here)
      under (Mod col value) here q = down_test (rank j t) (rank k t) true (rank-lt k j t (turn_greater key_cmp_total j k q) here)

  -- and so does a delete
  delete_test : (j k : Key) (c : Change) → T (is_some (row_at t j))
      → deletes_before key_cols (entry_at (rank k t) c) (entry_at (rank j t) (Del j)) ≡ is_below j k
  delete_test j k c here =
      elim (key_cmp j k) as (λ r. key_cmp j k ≡ r → nat_lt (rank j t) (rank k t) ≡ is_lt r) [
        | Less ↦ λ q. lt_test (rank j t) (rank k t) (rank-lt j k t q here)
        | Equal ↦ λ q. let e =
            ap (λ x. rank x t) (key_cmp-IsAntisymmetric j k q) in let le : rank k t
            ≤ rank j t = omega arith in ge_test (rank j t) (rank k t) le
        | Greater ↦ λ q. ge_test (rank j t) (rank k t) (rank-le k j t (turn_greater key_cmp_total j k q))
      ] refl

-- ---- how many of the other's entries stand before one

count_append : (p : Entry → Bool) (es fs : List Entry) → length (filter p (es ++ fs)) ≡ length (filter p es) + length (filter p fs)
count_append p es fs = ap length (filter-append p es fs) ∙ length-append (filter p es) (filter p fs)

count_one : (b : Bool) (e : Entry) → length (cond b (e ∷ []) []) ≡ cond b 1 0
count_one true e = refl
count_one false e = refl

zero_if : (b : Bool) → ◌≡◌ {A = ℕ} 0 (cond b 0 0)
zero_if true = refl
zero_if false = refl

-- no entry of the effect is an insert
abbrev pub adds_none : Effect → Bool
adds_none (effect.Ins row) = false
adds_none effect.Del = true
adds_none (effect.Mod cells) = true
adds_none (effect.Rep row) = false

module _ (key_cols : ℕ) (t : Table) (k : Key) (c : Change) (here : T (is_placed key_cols t k c)) where
  abbrev inserts_p : Entry → Bool
  inserts_p y = inserts_before key_cols (entry_at (rank k t) c) y

  abbrev deletes_p : Entry → Bool
  deletes_p y = deletes_before key_cols (entry_at (rank k t) c) y

  no_inserts : (n : ℕ) (cells : Cells) → length (filter inserts_p (map (λ x. entry_at n (Mod x.0 x.1)) cells)) ≡ 0
  no_inserts n [] = refl
  no_inserts n (x ∷ cells) = no_inserts n cells

  no_deletes : (n : ℕ) (cells : Cells) → length (filter deletes_p (map (λ x. entry_at n (Mod x.0 x.1)) cells)) ≡ 0
  no_deletes n [] = refl
  no_deletes n (x ∷ cells) = no_deletes n cells

  -- an insert at k itself is left out
  abbrev is_apart : Key → Effect → Bool
  is_apart j g = cond (eq_by_cmp key_cmp k j) (adds_none g) true

  apart_of : (b g : Bool) → T (cond b g true) → g ≡ false → T b → ⊥
  apart_of true g h e _ = subst T e h
  apart_of false g h e x = x

  inserts_one : (j : Key) (g : Effect) → T (is_keyed_effect key_cols j g) → T (is_apart j g)
      → length (filter inserts_p (entries_of (rank j t) j g)) ≡ cond (is_below j k) (inserts_of g) 0
  inserts_one j (effect.Ins row) h apart = grind (arith, common_steps, insert_test, apart_of, count_one, is_below)
  inserts_one j effect.Del h apart = zero_if (is_below j k)
  inserts_one j (effect.Mod cells) h apart = no_inserts (rank j t) cells ∙ zero_if (is_below j k)
  inserts_one j (effect.Rep row) h apart = grind (arith, common_steps, insert_test, apart_of, count_one, is_below)

  deletes_one : (j : Key) (g : Effect) → T (fits (row_at t j) g)
      → length (filter deletes_p (entries_of (rank j t) j g)) ≡ cond (is_below j k) (deletes_of g) 0
  deletes_one j (effect.Ins row) fit = zero_if (is_below j k)
  deletes_one j effect.Del fit =
      ap (λ b. length (cond b (entry_at (rank j t) (Del j) ∷ []) [])) (delete_test key_cols t j k c fit)
      ∙ count_one (is_below j k) (entry_at (rank j t) (Del j))
  deletes_one j (effect.Mod cells) fit = no_deletes (rank j t) cells ∙ zero_if (is_below j k)
  deletes_one j (effect.Rep row) fit =
      ap (λ b. length (cond b (entry_at (rank j t) (Del j) ∷ []) [])) (delete_test key_cols t j k c fit)
      ∙ count_one (is_below j k) (entry_at (rank j t) (Del j))

  inserts_all : (y : Effects) → T (list_all (λ e. is_keyed_effect key_cols e.0 e.1) y) → T (list_all (λ e. is_apart e.0 e.1) y)
      → length (filter inserts_p (canonical_entries t y)) ≡ sum_below inserts_of k y
  inserts_all [] h apart = refl
  inserts_all (e ∷ y) h apart =
      let head = inserts_one e.0 e.1 (first _ _ h) (first _ _ apart) in
      let rest = inserts_all y (second _ _ h) (second _ _ apart) in
      count_append inserts_p (entries_of (rank e.0 t) e.0 e.1) (canonical_entries t y) ∙ λ i. head i + rest i

  deletes_all : (y : Effects) → T (all_fit t y) → length (filter deletes_p (canonical_entries t y)) ≡ sum_below deletes_of k y
  deletes_all [] h = refl
  deletes_all (e ∷ y) h =
      let head = deletes_one e.0 e.1 (first _ _ h) in
      let rest = deletes_all y (second _ _ h) in
      count_append deletes_p (entries_of (rank e.0 t) e.0 e.1) (canonical_entries t y) ∙ λ i. head i + rest i

  balance : (r r' i d : ℕ) → d + r' ≡ i + r → (r + i) - d ≡ r'
  balance r r' i d e = omega arith

  -- an entry made consecutive to effects that insert no row of its key stands at its key's rank after them
  pub moved_one : (y : Effects) → T (is_sorted key_cmp t) → T (are_keyed_effects key_cols y) → T (all_fit t y)
      → T (list_all (λ e. is_apart e.0 e.1) y)
      → rebased_entry key_cols (canonical_entries t y) (entry_at (rank k t) c) ≡ entry_at (rank k (table_with t y)) c
  moved_one y ht hy fy apart = grind (arith, common_steps, inserts_all, second, deletes_all, balance, sum_below, inserts_of, deletes_of, rank-table_with, first)

-- ---- effects that don't clash

-- what doesn't clash adds no row where the other has an effect
pub none_added : (rule : ConflictRule) (f : Effect) (g : Option Effect) (old : Option Row) → T (fits old f) → T (holds_at (fits old) g) →
    clashes rule f g ≡ false → T (holds_at adds_none g)
none_added rule f None old p q unclashed = tt
none_added rule (effect.Ins r) (Some (effect.Ins s)) old p q unclashed = cc
none_added rule (effect.Ins r) (Some (effect.Rep s)) None p q unclashed = absurd q
none_added rule (effect.Ins r) (Some (effect.Rep s)) (Some o) p q unclashed = absurd p
none_added rule effect.Del (Some (effect.Ins s)) None p q unclashed = absurd p
none_added rule effect.Del (Some (effect.Ins s)) (Some o) p q unclashed = absurd q
none_added rule effect.Del (Some (effect.Rep s)) old p q unclashed = cc
none_added rule (effect.Mod c) (Some (effect.Ins s)) None p q unclashed = absurd p
none_added rule (effect.Mod c) (Some (effect.Ins s)) (Some o) p q unclashed = absurd q
none_added rule (effect.Mod c) (Some (effect.Rep s)) old p q unclashed = cc
none_added rule (effect.Rep r) (Some (effect.Ins s)) None p q unclashed = absurd p
none_added rule (effect.Rep r) (Some (effect.Ins s)) (Some o) p q unclashed = absurd q
none_added rule (effect.Rep r) (Some (effect.Rep s)) old p q unclashed = cc
none_added rule f (Some effect.Del) old p q unclashed = tt
none_added rule f (Some (effect.Mod c)) old p q unclashed = tt

-- a test of what is found is one of each entry under the key
pub spread : (p : Effect → Bool) (k : Key) (y : Effects) → T (is_sorted key_cmp y) → T (holds_at p (find key_cmp k y))
    → T (list_all (λ e. cond (eq_by_cmp key_cmp k e.0) (p e.1) true) y)
spread p k [] h found = tt
spread p k (e ∷ y) h found =
    elim (eq_by_cmp key_cmp k e.0) as (λ b. eq_by_cmp key_cmp k e.0 ≡ b → T (holds_at p (cond b (Some e.1) (find key_cmp k y)))
    → T (cond b (p e.1) true && list_all (λ e. cond (eq_by_cmp key_cmp k e.0) (p e.1) true) y)) [
      | true ↦ λ q g.
          let none = find_below key_cmp_total k y (below_tied key_cmp key_cmp_total k e.0 y (equal _ (subst T (sym q) tt)) (first _ _ h)) in
          both _ _ g (spread p k y (second _ _ h) (subst (λ v. T (holds_at p v)) (sym none) tt))
      | false ↦ λ q g. spread p k y (second _ _ h) g
    ] refl found

module _ (key_cols : ℕ) (t : Table) (y : Effects) (ht : T (is_sorted key_cmp t)) (hy : T (are_keyed_effects key_cols y))
    (fy : T (all_fit t y)) where
  module _ (k : Key) (apart : T (list_all (λ e. cond (eq_by_cmp key_cmp k e.0) (adds_none e.1) true) y)) where
    step : (c : Change) → T (is_placed key_cols t k c)
        → rebased_entry key_cols (canonical_entries t y) (entry_at (rank k t) c) ≡ entry_at (rank k (table_with t y)) c
    step c here = moved_one key_cols t k c here y ht hy fy apart

    cells_step : (cells : Cells) → T (is_some (row_at t k))
        → map (rebased_entry key_cols (canonical_entries t y)) (map (λ c. entry_at (rank k t) (Mod c.0 c.1)) cells)
        ≡ map (λ c. entry_at (rank k (table_with t y)) (Mod c.0 c.1)) cells
    cells_step [] here = refl
    cells_step (c ∷ cells) here = let head = step (Mod c.0 c.1) here in let rest = cells_step cells here in λ i. head i ∷ rest i

    effect_step : (f : Effect) → T (is_keyed_effect key_cols k f) → T (fits (row_at t k) f)
        → map (rebased_entry key_cols (canonical_entries t y)) (entries_of (rank k t) k f)
        ≡ entries_of (rank k (table_with t y)) k f
    effect_step (effect.Ins row) h fit = ap (λ e. e ∷ []) (step (Ins row) h)
    effect_step effect.Del h fit = ap (λ e. e ∷ []) (step (Del k) fit)
    effect_step (effect.Mod cells) h fit = cells_step cells fit
    effect_step (effect.Rep row) h fit = let head = step (Ins row) h in let rest = step (Del k) fit in λ i. head i ∷ rest i ∷ []

  all_moved : (rule : ConflictRule) (x : Effects) → T (list_all (λ e. is_keyed_effect key_cols e.0 e.1) x) → T (all_fit t x) →
      conflicts rule x y ≡ false → rebased_entries key_cols (canonical_entries t y) (canonical_entries t x)
      ≡ canonical_entries (table_with t y) x
  all_moved rule [] h fit unclashed = refl
  all_moved rule (e ∷ x) h fit unclashed =
      let free = left_false (clashes rule e.1 (find key_cmp e.0 y)) _ unclashed in
      let fits_y = each_at key_cmp key_cmp_total key_cmp-IsAntisymmetric (λ k f. fits (row_at t k) f) y fy e.0 in
      let apart =
      spread adds_none e.0 y (first _ _ hy)
      (none_added rule e.1 (find key_cmp e.0 y) (row_at t e.0) (first _ _ fit) fits_y free) in
      let head = effect_step e.0 apart e.1 (first _ _ h) (first _ _ fit) in
      let rest = all_moved rule x (second _ _ h) (second _ _ fit) (right_false (clashes rule e.1 (find key_cmp e.0 y)) _ unclashed) in
      map-append (rebased_entry key_cols (canonical_entries t y)) (entries_of (rank e.0 t) e.0 e.1) (canonical_entries t x) ∙ λ i.
      head i ++ rest i

-- X's entries moved over Y's, where the two don't clash, are X's entries over the table after Y
pub rebased_entry-canonical_entries : (rule : ConflictRule) (key_cols : ℕ) (t : Table) (x y : Effects) → T (is_sorted key_cmp t) →
    T (are_keyed_effects key_cols x) → T (are_keyed_effects key_cols y) → T (all_fit t x) → T (all_fit t y) → conflicts rule x y ≡ false →
    rebased_entries key_cols (canonical_entries t y) (canonical_entries t x) ≡ canonical_entries (table_with t y) x
rebased_entry-canonical_entries rule key_cols t x y ht hx hy fx fy unclashed =
    all_moved key_cols t y ht hy fy rule x (second _ _ hx) fx unclashed
