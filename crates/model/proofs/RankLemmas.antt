-- How effects move the ranks of keys.
use Rattle.std.proofs.Common.{◌≡◌, ℕ, ◌+◌, Bool, true, false, cond, not, ◌&&◌, T, Option, Some, None, is_some, option_map, List, [], ◌∷◌, length, filter, Less, Equal, Greater, is_lt, is_eq, refl, sym, ap, ◌∙◌, subst, arith}
use Rattle.std.specs.FinMap.Entries.{by_order, below_all}
use Rattle.values.specs.Orders.{key_cmp, key_cmp_total, key_cmp-IsAntisymmetric}
use Rattle.values.specs.declared.row.Row.{Row}
use Rattle.values.specs.declared.row.Key.{Key}
use Rattle.model.specs.Maps.{put, is_sorted, without, store, alter}
use Rattle.model.specs.Table.{Table, row_at, rank}
use Rattle.model.specs.Effects.{set_cells, Effects, fits, all_fit, row_after, table_with}
use Rattle.model.specs.declared.effect.Effect.{Effect}
use Rattle.model.specs.declared.effect.Effect.TheVariants.{Ins, Del, Mod, Rep}
use Rattle.model.proofs.MapsLemmas.{both, first, second, less, below_head, find_below, without_below, below_tied, find-alter, sorted-alter}
use Rattle.std.proofs.lemmas.Grind.{common_steps}

-- the one key is below the other
abbrev pub is_below : Key → Key → Bool
is_below j k = is_lt (key_cmp j k)

-- one where the test holds
abbrev pub one_if : Bool → ℕ
one_if b = cond b 1 0

count_cons : {A : Type 0} (b : Bool) (x : A) (xs : List A) → length (cond b (x ∷ xs) xs) ≡ one_if b + length xs
count_cons true x xs = omega arith
count_cons false x xs = omega arith

-- a first row of a smaller key adds one to a rank, and another first row nothing
pub rank-cons : (k : Key) (e : Key × Row) (t : Table) → rank k (e ∷ t) ≡ one_if (is_below e.0 k) + rank k t
rank-cons k e t = count_cons (is_below e.0 k) e (filter (λ x. is_below x.0 k) t)

none_more : (n : ℕ) → n ≡ 0 + n
none_more n = omega arith

swap_in : (a b n m : ℕ) → m ≡ b + n → a + m ≡ b + (a + n)
swap_in a b n m e = omega arith

module _ (k j : Key) where
  rank-put : (row : Row) (t : Table) → T (is_sorted key_cmp t)
      → rank k (put key_cmp j row t) ≡ cond (is_some (row_at t j)) 0 (one_if (is_below j k)) + rank k t
  rank-put row [] h = rank-cons k (j, row) []
  rank-put row (e ∷ t) h =
      elim (key_cmp j e.0) as
      (λ r. key_cmp j e.0 ≡ r → rank k (by_order r ((j, row) ∷ e ∷ t) ((e.0, row) ∷ t) (e ∷ put key_cmp j row t))
      ≡ cond (is_some (cond (is_eq r) (Some e.1) (row_at t j))) 0 (one_if (is_below j k)) + rank k (e ∷ t)) [
        | Less ↦ λ p.
            rank-cons k (j, row) (e ∷ t)
            ∙ ap (λ (o : Option Row). cond (is_some o) 0 (one_if (is_below j k)) + rank k (e ∷ t))
            (sym (find_below key_cmp_total j t (below j e.0 t p (first _ _ h))))
        | Equal ↦ λ p. rank-cons k (e.0, row) t ∙ sym (rank-cons k e t) ∙ none_more (rank k (e ∷ t))
        | Greater ↦ λ p.
            rank-cons k e (put key_cmp j row t)
            ∙ swap_in (one_if (is_below e.0 k)) (cond (is_some (row_at t j)) 0 (one_if (is_below j k))) (rank k t) _
            (rank-put row t (second _ _ h))
            ∙ ap (λ n. cond (is_some (row_at t j)) 0 (one_if (is_below j k)) + n) (sym (rank-cons k e t))
      ] refl
    where
      below : (x y : Key) (t : Table) → key_cmp x y ≡ Less → T (below_all key_cmp y t) → T (below_all key_cmp x t)
      below x y [] p h = tt
      below x y (e ∷ t) p h =
          both _ _ (subst (λ r. T (is_lt r)) (sym (key_cmp_total.trans x y e.0 p (less _ (first _ _ h)))) tt)
          (below x y t p (second _ _ h))

  rank-without : (t : Table) → T (is_sorted key_cmp t)
      → cond (is_some (row_at t j)) (one_if (is_below j k)) 0 + rank k (without key_cmp j t) ≡ rank k t
  rank-without [] h = refl
  rank-without (e ∷ t) h =
      elim (key_cmp j e.0) as
      (λ r. key_cmp j e.0 ≡ r → cond (is_some (cond (is_eq r) (Some e.1) (row_at t j))) (one_if (is_below j k)) 0
      + rank k (cond (not (is_eq r)) (e ∷ without key_cmp j t) (without key_cmp j t))
      ≡ rank k (e ∷ t)) [
        | Less ↦ λ p.
            ap (λ n. cond (is_some (row_at t j)) (one_if (is_below j k)) 0 + n) (rank-cons k e (without key_cmp j t))
            ∙ sym (swap_in (one_if (is_below e.0 k)) (cond (is_some (row_at t j)) (one_if (is_below j k)) 0)
            (rank k (without key_cmp j t)) _ (sym (rank-without t (second _ _ h))))
            ∙ sym (rank-cons k e t)
        | Equal ↦ λ p.
            let same = key_cmp-IsAntisymmetric j e.0 p in
            (λ i. one_if (is_below (same i) k)
            + rank k (without_below key_cmp_total j t (below_tied key_cmp key_cmp_total j e.0 t p (first _ _ h)) i))
            ∙ sym (rank-cons k e t)
        | Greater ↦ λ p.
            ap (λ n. cond (is_some (row_at t j)) (one_if (is_below j k)) 0 + n) (rank-cons k e (without key_cmp j t))
            ∙ sym (swap_in (one_if (is_below e.0 k)) (cond (is_some (row_at t j)) (one_if (is_below j k)) 0)
            (rank k (without key_cmp j t)) _ (sym (rank-without t (second _ _ h))))
            ∙ sym (rank-cons k e t)
      ] refl

-- how many inserts and deletes an effect's entries are
abbrev pub inserts_of : Effect → ℕ
inserts_of (Ins row) = 1
inserts_of Del = 0
inserts_of (Mod cells) = 0
inserts_of (Rep row) = 1

-- how many of an effect's entries are deletes
abbrev pub deletes_of : Effect → ℕ
deletes_of (Ins row) = 0
deletes_of Del = 1
deletes_of (Mod cells) = 0
deletes_of (Rep row) = 1

-- their sum over the effects on the keys below k
abbrev pub sum_below : (Effect → ℕ) → Key → Effects → ℕ
sum_below count k [] = 0
sum_below count k (e ∷ effects) = cond (is_below e.0 k) (count e.1) 0 + sum_below count k effects

-- one effect moves the rank of each greater key
rank-alter : (k j : Key) (f : Effect) (t : Table) (old : Option Row) → row_at t j ≡ old → T (is_sorted key_cmp t) → T (fits old f)
    → cond (is_below j k) (deletes_of f) 0 + rank k (alter key_cmp j (row_after f) t)
    ≡ cond (is_below j k) (inserts_of f) 0 + rank k t
rank-alter k j (Ins row) t None is h fit = grind (arith, common_steps, rank-put)
rank-alter k j (Ins row) t (Some r) is h fit = absurd fit
rank-alter k j Del t None is h fit = absurd fit
rank-alter k j Del t (Some r) is h fit =
    let here =
    ap (λ (o : Option Row). cond (is_some o) (one_if (is_below j k)) 0 + rank k (without key_cmp j t)) (sym is)
    ∙ rank-without k j t h in
    here ∙ sym (nothing (is_below j k) _)
  where
    nothing : (b : Bool) (n : ℕ) → cond b 0 0 + n ≡ n
    nothing true n = omega arith
    nothing false n = omega arith
rank-alter k j (Mod cells) t None is h fit = absurd fit
rank-alter k j (Mod cells) t (Some r) is h fit =
    (λ i. cond (is_below j k) 0 0 + rank k (store key_cmp j (option_map (set_cells cells) (is i)) t))
    ∙ ap (λ n. cond (is_below j k) 0 0 + n) (rank-put k j (set_cells cells r) t h
    ∙ ap (λ (o : Option Row). cond (is_some o) 0 (one_if (is_below j k)) + rank k t) is
    ∙ sym (none_more (rank k t)))
rank-alter k j (Rep row) t None is h fit = absurd fit
rank-alter k j (Rep row) t (Some r) is h fit =
    ap (λ n. cond (is_below j k) 1 0 + n) (rank-put k j row t h
    ∙ ap (λ (o : Option Row). cond (is_some o) 0 (one_if (is_below j k)) + rank k t) is
    ∙ sym (none_more (rank k t)))

-- an effect on a smaller key changes nothing of what fits
pub fits_other : (j : Key) (g : Option Row → Option Row) (t : Table) (effects : Effects) → T (below_all key_cmp j effects)
    → all_fit (alter key_cmp j g t) effects ≡ all_fit t effects
fits_other j g t [] h = refl
fits_other j g t (e ∷ effects) h =
    let apart = below_head key_cmp_total j e effects h in
    let found = find-alter key_cmp key_cmp_total j g t e.0 ∙ ap (λ r. cond (is_eq r) (g (row_at t j)) (row_at t e.0)) apart in
    λ i. fits (found i) e.1 && fits_other j g t effects (second _ _ h) i

-- two steps, each of which balances, balance together
pub add_up : (d e i j n m r : ℕ) → e + n ≡ j + m → d + m ≡ i + r → (d + e) + n ≡ (i + j) + r
add_up d e i j n m r p q = omega arith

-- effects move a rank by their inserts less their deletes on smaller keys
pub rank-table_with : (k : Key) (t : Table) (effects : Effects) → T (is_sorted key_cmp t) → T (is_sorted key_cmp effects)
    → T (all_fit t effects)
    → sum_below deletes_of k effects + rank k (table_with t effects) ≡ sum_below inserts_of k effects + rank k t
rank-table_with k t [] ht h fit = refl
rank-table_with k t (e ∷ effects) ht h fit =
    let after = alter key_cmp e.0 (row_after e.1) t in
    add_up (cond (is_below e.0 k) (deletes_of e.1) 0) (sum_below deletes_of k effects) (cond (is_below e.0 k) (inserts_of e.1) 0)
    (sum_below inserts_of k effects) (rank k (table_with after effects)) (rank k after) (rank k t)
    (rank-table_with k after effects (sorted-alter key_cmp key_cmp_total e.0 (row_after e.1) t ht) (second _ _ h)
    (subst T (sym (fits_other e.0 (row_after e.1) t effects (first _ _ h))) (second _ _ fit)))
    (rank-alter k e.0 e.1 t (row_at t e.0) refl ht (first _ _ fit))
