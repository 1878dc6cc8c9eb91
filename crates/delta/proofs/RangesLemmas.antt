-- What stands at a SID, or below it, is one part of the list.
use Rattle.std.proofs.Common.{◌≡◌, ℕ, suc, ◌+◌, ◌-◌, ◌<◌, ◌≤◌, Bool, true, false, not, ◌&&◌, T, List, ◌∷◌, ◌++◌, filter, length, take, drop, get_or, nat_cmp, Less, Greater, is_gt, sym, ap, ◌∙◌, subst, arith, inl, inr, drop-cons, length-take, append-nil}
use Rattle.std.specs.Prelude.{◌==◌, nat_lt}
use Rattle.std.specs.Ordering.{ordering_then}
use Rattle.std.specs.List.{list_all}
use Rattle.std.proofs.lemmas.Bool.Decides.{nat_tests}
use Rattle.std.proofs.lemmas.List.{get_or-take}
use Rattle.std.proofs.lemmas.Bool.{cases_lt}
use Rattle.std.proofs.lemmas.List.Elements.{filter-append}
use Rattle.model.specs.declared.entry.Entry.{Entry}
use Rattle.model.proofs.CallerLemmas.{first, second}
use Rattle.delta.specs.Search.{first_cmp, past_cmp, stands_before, IsSplit}
use Rattle.delta.proofs.ChangesLemmas.{nothing, all_from, all_take, all_drop, all_both, filter_all, filter_none, three_parts, middle_part}
use Rattle.delta.proofs.SearchLemmas.{at_index}

twice : (b : Bool) → T (not (not b)) → T b
twice true h = tt
twice false h = h

module _ (sid : ℕ) where
  -- ---- what the searches by SID tell of an entry

  -- an entry stands before all at the SID where its own is below
  before_is : (x : ℕ) → is_gt (ordering_then (nat_cmp sid x) Less) ≡ nat_lt x sid
  before_is x = grind (arith, nat_tests)

  -- and before what is past the SID where its own isn't above
  past_is : (x : ℕ) → is_gt (ordering_then (nat_cmp sid x) Greater) ≡ not (nat_lt sid x)
  past_is x = grind (arith, nat_tests)

  not_here : (x : ℕ) → T (nat_lt x sid) → T (not (x == sid))
  not_here x h = grind (arith, nat_tests)

  not_past : (x : ℕ) → T (nat_lt sid x) → T (not (x == sid))
  not_past x h = grind (arith, nat_tests)

  is_here : (x : ℕ) → T (not (nat_lt x sid)) → T (not (nat_lt sid x)) → T (x == sid)
  is_here x h g = grind (arith, nat_tests)

  -- ---- the entries at the SID and below it

  -- the search for the SID doesn't end past that for what follows it
  pub first-le-past : (es : List Entry) (n m : ℕ) → IsSplit (stands_before first_cmp sid) es n
      → IsSplit (stands_before past_cmp sid) es m → n ≤ m
  first-le-past es n m h g =
      elim (cases_lt m n) [
        | inl lt ↦
            let short : m < length es = omega (arith, h.within) in
            let inside : m < length (take n es) = omega (arith, length-take n es, h.within) in
            let y = get_or es m nothing in
            let below : T (stands_before first_cmp sid y) =
            subst (λ x. T (stands_before first_cmp sid x)) (get_or-take n es m nothing lt)
            (at_index (stands_before first_cmp sid) (take n es) h.before m nothing inside) in
            let cut : T (list_all (λ e. not (stands_before past_cmp sid e)) (y ∷ drop (suc m) es)) =
            subst (λ ys. T (list_all (λ e. not (stands_before past_cmp sid e)) ys)) (drop-cons es m nothing short) g.after in
            absurd (below_and_past y.sid (subst T (before_is y.sid) below)
            (subst (λ b. T (not b)) (past_is y.sid) (first (not (stands_before past_cmp sid y)) _ cut)))
        | inr le ↦ le
      ]
    where
      below_and_past : (x : ℕ) → T (nat_lt x sid) → T (not (not (nat_lt sid x))) → ⊥
      below_and_past x a b = grind (arith, nat_tests)

  -- what stands between the two is at the SID
  pub filter-at : (es : List Entry) (n m : ℕ) → IsSplit (stands_before first_cmp sid) es n
      → IsSplit (stands_before past_cmp sid) es m → take (m - n) (drop n es) ≡ filter (λ e. e.sid == sid) es
  filter-at es n m h g =
      let here = λ (e : Entry). e.sid == sid in
      let k = m - n in
      let le = first-le-past es n m h g in
      let sum : n + k ≡ m = omega (arith, le) in
      let xs = take n es in
      let ms = take k (drop n es) in
      let zs = drop m es in
      let not_past_all : T (list_all (stands_before past_cmp sid) ms) =
      subst (λ ys. T (list_all (stands_before past_cmp sid) ys)) (middle_part es n m k sum)
      (all_drop (stands_before past_cmp sid) n (take m es) g.before) in
      let not_below_all : T (list_all (λ e. not (stands_before first_cmp sid e)) ms) =
      all_take (λ e. not (stands_before first_cmp sid e)) k (drop n es) h.after in
      let drops_xs =
      filter_none here xs
      (all_from (stands_before first_cmp sid) (λ e. not (here e)) (λ x t. not_here x.sid (subst T (before_is x.sid) t)) xs
      h.before)
      in
      let drops_zs =
      filter_none here zs (all_from (λ e. not (stands_before past_cmp sid e)) (λ e. not (here e))
      (λ x t. not_past x.sid (twice _ (subst (λ b. T (not b)) (past_is x.sid) t))) zs g.after) in
      let both_tests = all_both (stands_before past_cmp sid) (λ e. not (stands_before first_cmp sid e)) ms not_past_all not_below_all in
      let keeps_ms = filter_all here ms (all_from (λ e. stands_before past_cmp sid e && not (stands_before first_cmp sid e)) here
      (λ x t. is_here x.sid (subst (λ b. T (not b)) (before_is x.sid) (second (stands_before past_cmp sid x) _ t))
      (subst T (past_is x.sid) (first (stands_before past_cmp sid x) _ t)))
      ms both_tests) in
      sym (ap (filter here) (sym (three_parts es n m k sum))
      ∙ filter-append here xs (ms ++ zs)
      ∙ (λ i. drops_xs i ++ filter-append here ms zs i)
      ∙ (λ i. keeps_ms i ++ drops_zs i)
      ∙ append-nil ms)
