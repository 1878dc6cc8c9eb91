-- The entries ahead of a search, one by one.
use Rattle.std.proofs.Common.{◌≡◌, ℕ, zero, suc, ◌+◌, Bool, true, T, Option, Some, None, List, [], ◌∷◌, take, drop, rules}
use Rattle.std.proofs.Common.{sym, ap, ◌∙◌, subst, arith, Bor}
use Rattle.std.specs.Prelude.{slice_get}
use Rattle.std.specs.Option.{option_copied}
use Rattle.std.specs.Iterator.{YieldsFirstRef}
use Rattle.std.specs.List.{list_all}
use Rattle.std.proofs.lemmas.Float.{T_from_true}
use Rattle.model.specs.declared.entry.Entry.{Entry}
use Rattle.model.proofs.CallerLemmas.{both, first, second}
use Rattle.delta.specs.Search.{base_cmp, modify_cmp, stands_before}
use Rattle.std.proofs.lemmas.Grind.{common_steps}

none_next : (es : List Entry) (n : ℕ) → drop n es ≡ [] → (◌≡◌ {A = Option Entry} None (slice_get es n)) × ([] ≡ drop (suc n) es)
none_next [] zero is = (cc, cc)
none_next [] (suc n) is = (cc, cc)
none_next (e ∷ es) zero is = cc
none_next (e ∷ es) (suc n) is = none_next es n is

some_next : (es : List Entry) (n : ℕ) (x : Entry) (t : List Entry) → drop n es ≡ x ∷ t → (Some x ≡ slice_get es n) × (t ≡ drop (suc n) es)
some_next [] zero x t is = cc
some_next [] (suc n) x t is = cc
some_next (e ∷ es) zero x t is = (cc, cc)
some_next (e ∷ es) (suc n) x t is = some_next es n x t is

-- an iterator over the entries from an index on gives the one at it, and goes on behind it
pub next_is : (es : List Entry) (n : ℕ) (s t : List Entry) (r : Option (Bor Entry)) → s ≡ drop n es
    → YieldsFirstRef {A = Entry} (λ xs. xs) s r t
    → (option_copied r ≡ slice_get es n) × (t ≡ drop (n + 1) es)
next_is es n s t None is gives =
    let more : suc n ≡ n + 1 = omega arith in
    let none = none_next es n (sym is ∙ gives.0) in
    (none.0, gives.1 ∙ none.1 ∙ ap (λ k. drop k es) more)
next_is es n s t (Some x) is gives = grind (arith, common_steps, some_next)

-- one entry more passes the test
pub passed_more : (test : Entry → Bool) (es : List Entry) (n : ℕ) (e : Entry) → slice_get es n ≡ Some e → test e ≡ true
    → T (list_all test (take n es)) → T (list_all test (take (n + 1) es))
passed_more test es n e at yes_it h =
    let more : suc n ≡ n + 1 = omega arith in
    subst (λ (k : ℕ). T (list_all test (take k es))) more (by es n at h)
  where
    by : (xs : List Entry) (k : ℕ) → slice_get xs k ≡ Some e → T (list_all test (take k xs)) → T (list_all test (take (suc k) xs))
    by [] k is g = cc
    by (x ∷ xs) zero is g = let same : x ≡ e = cc in both (test x) _ (T_from_true _ (ap test same ∙ yes_it)) tt
    by (x ∷ xs) (suc k) is g = both (test x) _ (first (test x) _ g) (by xs k is (second (test x) _ g))

-- what stands before all that becomes of the base row stands before its modify of a column
pub base_is_modify : (sid col : ℕ) (e : Entry) → T (stands_before base_cmp sid e) → T (stands_before (modify_cmp col) sid e)
base_is_modify sid col e h = search rules
