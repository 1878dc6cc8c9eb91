-- The row at a position, by the place where a descent finds it.
use Rattle.std.proofs.Common.{◌≡◌, ℕ, zero, suc, ◌+◌, ◌-◌, Bool, true, false, cond, not, ◌&&◌, T, Option, Some, None, List, [], rules}
use Rattle.std.proofs.Common.{◌∷◌, take, drop, nat_cmp, Less, is_gt, refl, ◌∙◌, arith}
use Rattle.std.specs.Prelude.{◌==◌, nat_lt, nat_le, slice_get}
use Rattle.std.specs.Ordering.{ordering_then}
use Rattle.std.specs.List.{list_all}
use Rattle.std.proofs.lemmas.Bool.Decides.{nat_tests}
use Rattle.model.specs.declared.entry.Entry.{Entry}
use Rattle.model.specs.declared.entry.Change.{Change}
use Rattle.model.specs.declared.entry.Change.TheVariants.{Ins, Del, Mod}
use Rattle.model.specs.Entries.{is_insert, are_ordered}
use Rattle.model.specs.Places.{insert_count, delete_count}
use Rattle.model.proofs.CallerLemmas.{first, second}
use Rattle.delta.specs.declared.places.Place.TheVariants.{Inserted, Base}
use Rattle.delta.specs.Changes.{is_delete_at}
use Rattle.delta.specs.Positions.{IsAtRid}
use Rattle.delta.specs.Search.{base_cmp, first_cmp, stands_before, IsSplit}
use Rattle.delta.specs.Walks.{IsWalk, place_at}
use Rattle.delta.proofs.CountLemmas.{insert_worth, delete_worth, insert_count-cons, delete_count-cons}
use Rattle.delta.proofs.CountedLemmas.{next_passes, none_is, some_is, split_where}
use Rattle.delta.proofs.LookupLemmas.{head_of, has_delete-split}
use Rattle.delta.proofs.PositionsLemmas.{insert_count-filter, delete_count-filter, ins_to, del_below}
use Rattle.delta.proofs.SearchLemmas.{parted, base_cmp-closed}
use Rattle.std.proofs.lemmas.Grind.{common_steps}

-- what the next entry is not, the first of those left is not
pub head_not : (test : Entry → Bool) (es : List Entry) (n : ℕ) → ((e : Entry) → slice_get es n ≡ Some e → test e ≡ false)
    → head_of test false (drop n es) ≡ false
head_not test [] zero h = refl
head_not test [] (suc n) h = refl
head_not test (e ∷ es) zero h = h e refl
head_not test (e ∷ es) (suc n) h = head_not test es n h

module _ (s : ℕ) where
  insert_before : (c : Change) (m : ℕ) → T (is_gt (ordering_then (nat_cmp s m) (base_cmp c)))
      → cond (nat_le m s) (insert_worth c) 0 ≡ insert_worth c
  insert_before (Ins row) m h = grind (arith, nat_tests)
  insert_before (Del key) m h = grind (arith, nat_tests)
  insert_before (Mod col value) m h = grind (arith, nat_tests)

  delete_before : (c : Change) (m : ℕ) → T (is_gt (ordering_then (nat_cmp s m) (base_cmp c)))
      → cond (nat_lt m s) (delete_worth c) 0 ≡ delete_worth c
  delete_before (Ins row) m h = grind (arith, nat_tests)
  delete_before (Del key) m h = grind (arith, nat_tests)
  delete_before (Mod col value) m h = grind (arith, nat_tests)

  insert_after : (c : Change) (m : ℕ) → T (not (is_gt (ordering_then (nat_cmp s m) (base_cmp c))))
      → cond (nat_le m s) (insert_worth c) 0 ≡ 0
  insert_after (Ins row) m h = grind (arith, nat_tests)
  insert_after (Del key) m h = grind (arith, nat_tests)
  insert_after (Mod col value) m h = grind (arith, nat_tests)

  delete_after : (c : Change) (m : ℕ) → T (not (is_gt (ordering_then (nat_cmp s m) (base_cmp c))))
      → cond (nat_lt m s) (delete_worth c) 0 ≡ 0
  delete_after (Ins row) m h = grind (arith, nat_tests)
  delete_after (Del key) m h = grind (arith, nat_tests)
  delete_after (Mod col value) m h = grind (arith, nat_tests)

  abbrev before : Entry → Bool
  before e = stands_before base_cmp s e

  -- the inserts up to a base row, and the deletes below it, are those before its changes
  counts : (es : List Entry) (n : ℕ) → T (list_all before (take n es)) → T (list_all (λ e. not (before e)) (drop n es))
      → (ins_to s es ≡ insert_count (take n es)) × (del_below s es ≡ delete_count (take n es))
  counts [] zero b a = (refl, refl)
  counts [] (suc n) b a = (refl, refl)
  counts (e ∷ es) zero b a = grind (arith, common_steps, counts es zero tt (second (not (before e)) _ a), first, second, insert_count-filter, insert_after, delete_count-filter, delete_after)
  counts (e ∷ es) (suc n) b a = grind (arith, common_steps, counts es n (second (before e) _ b) a, first, second, insert_count-filter, insert_count-cons, insert_before, delete_count-filter, delete_count-cons, delete_before)

  -- what stands at the SID or past it, and is no insert there, is not before the changes of the base row
  not_before : (c : Change) (m : ℕ) → T (not (is_gt (ordering_then (nat_cmp s m) Less))) → ((m == s) && is_insert c) ≡ false
      → is_gt (ordering_then (nat_cmp s m) (base_cmp c)) ≡ false
  not_before (Ins row) m h g = grind (arith, nat_tests)
  not_before (Del key) m h g = grind (arith, nat_tests)
  not_before (Mod col value) m h g = grind (arith, nat_tests)

module _ (key_cols rid s : ℕ) (es : List Entry) (n : ℕ) (ordered : T (are_ordered key_cols es)) (st : IsWalk es rid s n) where
  -- no insert of the row is next
  abbrev pub NoInsert : Type 0
  NoInsert = (e : Entry) → slice_get es n ≡ Some e → ((e.sid == s) && is_insert e.change) ≡ false

  -- then the changes of the base row are
  pub base_split : NoInsert → IsSplit (stands_before base_cmp s) es n
  base_split none =
      split_where (stands_before base_cmp s) es n (parted key_cols base_cmp (base_cmp-closed key_cols) s es ordered) st.within st.before
      (λ e is. not_before s e.change e.sid (next_passes (λ x. not (stands_before first_cmp s x)) es n e st.after is) (none e is))

  pub base_is : NoInsert → IsAtRid es rid (Base s)
  base_is none =
      let split = base_split none in
      let sums = counts s es n split.before split.after in (
        has_delete-split key_cols s es n ordered split ∙ head_not (is_delete_at s) es n st.live,
        (λ i. (s + sums.0 i) - sums.1 i) ∙ st.position,
      )

  at_entry : (e : Entry) → slice_get es n ≡ Some e → (b : Bool) → ((e.sid == s) && is_insert e.change) ≡ b
      → IsAtRid es rid (cond b (Inserted n) (Base s))
  at_entry e is true there = grind (arith, common_steps, nat_tests)
  at_entry e is false apart = grind (arith, common_steps, base_is, some_is)

  -- the row there stands at the position
  pub row_is : IsAtRid es rid (place_at n s (slice_get es n))
  row_is = grind (arith, common_steps, base_is, none_is, at_entry)

-- where the row there is a base row, no insert of it is next
pub no_insert : (n s q : ℕ) (o : Option Entry) → place_at n s o ≡ Base q → (e : Entry) → o ≡ Some e
    → ((e.sid == s) && is_insert e.change) ≡ false
no_insert n s q None at e is = absurd (none_is e is)
no_insert n s q (Some x) at e is = search rules
