-- std's ordered map as the model's: the entries in ascending key.
use Rattle.std.proofs.Common.{◌≡◌, Bool, true, false, cond, not, T, Option, Some, None, List, [], ◌∷◌, ◌++◌, Ordering, Less, Equal, Greater, is_lt, is_eq, append_assoc, refl, sym, ap, ◌∙◌, subst}
use Rattle.std.specs.Ordering.{match_ordering, ordering_reverse}
use Rattle.std.specs.Cmp.{IsTotalOrder}
use Rattle.std.specs.FinMap.{IsAntisymmetric}
use Rattle.std.specs.List.{AllByRecursion}
use Rattle.std.specs.List.Sorted.{IsStrictlySortedBy}
use Rattle.std.specs.Map.{keys_of, remove_entry}
use Rattle.std.specs.BTreeMap.{insert_entry, is_at}
use Rattle.std.specs.FinMap.Entries.{by_order, below_all}
use Rattle.model.specs.Maps.{find, put, is_sorted, without, alter_all}
use Rattle.model.proofs.CallerLemmas.{both, first, second, less, without_below, below_tied, changed_by, find-alter_all, sorted-alter_all, same_map}

pub is_true : (b : Bool) → T b → b ≡ true
is_true true h = refl
is_true false h = absurd h

chosen : {A : Type 0} (r : Ordering) (a b c d : A) → c ≡ d → match_ordering r a b c ≡ by_order r a b d
chosen Less a b c d e = refl
chosen Equal a b c d e = refl
chosen Greater a b c d e = e

module _ {K : Type 0} (R : K → K → Ordering) where
  module _ {X : Type 0} where
    pub insert_entry-put : (es : List (K × X)) (k : K) (v : X) → insert_entry R es k v ≡ put R k v es
    insert_entry-put [] k v = refl
    insert_entry-put (e ∷ es) k v = chosen (R k e.0) ((k, v) ∷ e ∷ es) ((e.0, v) ∷ es) _ _ (ap (λ xs. e ∷ xs) (insert_entry-put es k v))

    pub below_all-sorted : (x : K) (es : List (K × X)) → AllByRecursion (λ y. R x y ≡ Less) (keys_of es) → T (below_all R x es)
    below_all-sorted x [] h = tt
    below_all-sorted x (e ∷ es) h = both _ _ (subst (λ r. T (is_lt r)) (sym h.0) tt) (below_all-sorted x es h.1)

    -- a map's keys ascend
    pub is_sorted-ordered : (es : List (K × X)) → IsStrictlySortedBy R (keys_of es) → T (is_sorted R es)
    unfolding IsStrictlySortedBy
    is_sorted-ordered [] h = tt
    is_sorted-ordered (e ∷ es) h = both _ _ (below_all-sorted e.0 es h.0) (is_sorted-ordered es h.1)

  module _ (o : IsTotalOrder R) {X : Type 0} where
    pub remove_entry-without : (es : List (K × X)) (k : K) → T (is_sorted R es) → remove_entry (is_at (R k)) es ≡ without R k es
    remove_entry-without [] k h = refl
    remove_entry-without (e ∷ es) k h =
        elim (R k e.0) as (λ r. R k e.0 ≡ r → cond (is_eq r) es (e ∷ remove_entry (is_at (R k)) es)
        ≡ cond (not (is_eq r)) (e ∷ without R k es) (without R k es)) [
          | Less ↦ λ p. ap (λ xs. e ∷ xs) (remove_entry-without es k (second _ _ h))
          | Equal ↦ λ p. sym (without_below o k es (below_tied R o k e.0 es p (first _ _ h)))
          | Greater ↦ λ p. ap (λ xs. e ∷ xs) (remove_entry-without es k (second _ _ h))
        ] refl

    -- a greater key goes to the end
    pub put-last : (k : K) (v : X) (es rest : List (K × X)) → T (is_sorted R (es ++ (k, v) ∷ rest)) → put R k v es ≡ es ++ (k, v) ∷ []
    put-last k v [] rest h = refl
    put-last k v (e ∷ es) rest h =
        ap (λ r. by_order r ((k, v) ∷ e ∷ es) ((e.0, v) ∷ es) (e ∷ put R k v es))
        (o.antisymm k e.0 ∙ ap ordering_reverse (above es (first _ _ h)))
        ∙ ap (λ xs. e ∷ xs) (put-last k v es rest (second _ _ h))
      where
        above : (es : List (K × X)) → T (below_all R e.0 (es ++ (k, v) ∷ rest)) → R e.0 k ≡ Less
        above [] h = less _ (first _ _ h)
        above (x ∷ xs) h = above xs (second _ _ h)

    -- entries in ascending key, put in turn, are the map of them
    pub alter_all-put : IsAntisymmetric R → (es : List (K × X)) → T (is_sorted R es) → alter_all R (λ v _. Some v) es [] ≡ es
    alter_all-put same es h =
        same_map R o same _ es (sorted-alter_all R o (λ v _. Some v) es [] tt) h
        (λ q. find-alter_all R o (λ v _. Some v) es [] q h ∙ found (find R q es))
      where
        found : (v : Option X) → changed_by (λ x _. Some x) v None ≡ v
        found None = refl
        found (Some x) = refl

    -- one more entry of a map that is copied in order
    pub copied-put : (all copied left rest : List (K × X)) (k : K) (v : X) → T (is_sorted R all) → copied ++ left ≡ all
        → left ≡ (k, v) ∷ rest → put R k v copied ++ rest ≡ all
    copied-put all copied left rest k v h so_far next =
        let whole : copied ++ (k, v) ∷ rest ≡ all = ap (λ es. copied ++ es) (sym next) ∙ so_far in
        ap (λ es. es ++ rest) (put-last k v copied rest (subst (λ es. T (is_sorted R es)) (sym whole) h))
        ∙ append_assoc copied ((k, v) ∷ []) rest ∙ whole
