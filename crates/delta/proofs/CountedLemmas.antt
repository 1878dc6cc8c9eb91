-- What is known of a lawful list of entries, in the words of the counted tree.
use Rattle.std.proofs.Common.{◌≡◌, Option, ℕ, zero, suc, ◌+◌, ◌<◌, ◌≤◌, ◌^◌, Bool, true, false, T, List, [], ◌∷◌, ◌++◌, arith, rules}
use Rattle.std.proofs.Common.{length, take, drop, filter, get_or, set, nat_cmp, Less, is_lt, refl, ap, subst}
use Rattle.std.specs.Prelude.{pos, ◌-ℤ◌, nat_lt, Some, None, slice_get}
use Rattle.std.specs.Ordering.{ordering_then}
use Rattle.std.specs.List.{list_all, All, AllByRecursion}
use Rattle.std.specs.List.Sorted.{IsPartitionedBy}
use Rattle.std.proofs.lemmas.Int.{ints}
use Rattle.std.proofs.lemmas.List.Elements.{recursion_from_All}
use Rattle.std.proofs.lemmas.Option.{slice_get-get_or}
use Rattle.model.specs.declared.entry.Entry.{Entry}
use Rattle.model.specs.declared.entry.Change.{Change}
use Rattle.model.specs.declared.entry.Change.TheVariants.{Ins, Del, Mod}
use Rattle.model.specs.Entries.{change_cmp, entry_cmp, are_ordered}
use Rattle.model.specs.Places.{insert_count, delete_count}
use Rattle.model.proofs.CallerLemmas.{first, second, less}
use Rattle.counted.specs.Search.{ArePlaced, IsPlace}
use Rattle.counted.specs.Sums.{weight_of, total, next_sid, IsOrdered}
use Rattle.counted.specs.Sums as sums
use Rattle.delta.specs.Search.{IsSplit}
use Rattle.delta.proofs.CountLemmas.{insert_worth, delete_worth, insert_count-cons, delete_count-cons}
use Rattle.delta.proofs.SearchLemmas.{all_after, split_at}
use Rattle.std.proofs.lemmas.Grind.{common_steps}

-- ---- sums

pub weight_is : (c : Change) → weight_of c ≡ pos (insert_worth c) -ℤ pos (delete_worth c)
weight_is (Ins row) = omega (arith, ints)
weight_is (Del key) = omega (arith, ints)
weight_is (Mod col value) = omega (arith, ints)

pub total-is : (es : List Entry) → total es ≡ pos (insert_count es) -ℤ pos (delete_count es)
total-is [] = omega (arith, ints)
total-is (e ∷ es) = omega (arith, ints, weight_is e.change, total-is es, insert_count-cons e es, delete_count-cons e es)

pub shift-is : (sid : ℕ) (es : List Entry) → sums.shift_before sid es ≡ total (filter (λ e. nat_lt e.sid sid) es)
shift-is sid [] = refl
shift-is sid (e ∷ es) = grind (arith, common_steps, shift-is sid es, ints)

-- ---- order

by_order : (key_cols n m : ℕ) (x y : Change) → ordering_then (nat_cmp n m) (change_cmp key_cols x y) ≡ Less → next_sid n x ≤ m
by_order key_cols n m x y h = search rules

next_le : (key_cols : ℕ) (x y : Entry) → entry_cmp key_cols x y ≡ Less → next_sid x.sid x.change ≤ y.sid
next_le key_cols x y h = by_order key_cols x.sid y.sid x.change y.change h

all_next : (key_cols : ℕ) (x : Entry) (es : List Entry) → T (list_all (λ y. is_lt (entry_cmp key_cols x y)) es)
    → AllByRecursion (λ y. next_sid x.sid x.change ≤ y.sid) es
all_next key_cols x [] h = tt
all_next key_cols x (y ∷ es) h =
    grind (arith, common_steps, all_next key_cols x es (second (is_lt (entry_cmp key_cols x y)) _ h), next_le, less, first, second)

pub ordered_from_lawful : (key_cols : ℕ) (es : List Entry) → T (are_ordered key_cols es) → IsOrdered es
ordered_from_lawful key_cols [] h = tt
ordered_from_lawful key_cols (x ∷ es) h = grind (arith, common_steps, ordered_from_lawful key_cols es (second (list_all (λ y. is_lt (entry_cmp key_cols x y)) es) _ h), all_next, first, second)

pub placed_from_lawful : (es : List Entry) → All (λ e. e.sid < 2 ^ 32) es → ArePlaced es
placed_from_lawful es h = recursion_from_All (λ (e : Entry). e.sid < 2 ^ 32) es h

-- ---- search

pub not_so : (b : Bool) → (b ≡ true → ⊥) → b ≡ false
not_so true h = absurd (h refl)
not_so false h = refl

pub true_false : (b : Bool) → b ≡ true → b ≡ false → ⊥
true_false b p q = cc

before_place : (test : Entry → Bool) (xs : List Entry) (n : ℕ) → IsPartitionedBy test xs → IsPlace (λ e up. test e) (pos 0) xs n
    → (k : ℕ) (d : Entry) → 0 ≤ k → k < n → test (get_or xs k d) ≡ true
before_place test xs zero parted b k d low lt = absurd (omega arith)
before_place test xs (suc n) parted b k d low lt =
    let within = b.within in parted k n d (omega arith) (omega arith) (b.low n d (omega arith))

pub split_from_place : (test : Entry → Bool) (xs : List Entry) (n : ℕ) → IsPartitionedBy test xs → IsPlace (λ e up. test e) (pos 0) xs n
    → IsSplit test xs n
split_from_place test xs n parted b =
    split_at test xs n b.within (
      before_place test xs n parted b,
      λ k d le lt. not_so (test (get_or xs k d))
          (λ yes. true_false (test (get_or xs n d)) (parted n k d le lt yes) (b.high d (omega arith))),
    )

-- a test splits entries where all before pass it and the next, if there is one, does not
pub split_where : (test : Entry → Bool) (xs : List Entry) (n : ℕ) → IsPartitionedBy test xs → n ≤ length xs → T (list_all test (take n xs))
    → ((e : Entry) → slice_get xs n ≡ Some e → test e ≡ false) → IsSplit test xs n
split_where test xs n parted within before next = record {
  within = within;
  before = before;
  after = all_after test n xs (λ k d le lt.
      not_so (test (get_or xs k d)) (λ yes.
      true_false (test (get_or xs n d)) (parted n k d le lt yes) (next (get_or xs n d) (slice_get-get_or xs n d (omega arith)))));
}

-- the next entry passes a test that all from there on pass
pub next_passes : (test : Entry → Bool) (xs : List Entry) (n : ℕ) (e : Entry) → T (list_all test (drop n xs)) → slice_get xs n ≡ Some e
    → T (test e)
next_passes test [] n e h is = cc
next_passes test (x ∷ xs) zero e h is = let same : x ≡ e = cc in subst (λ (y : Entry). T (test y)) same (first (test x) _ h)
next_passes test (x ∷ xs) (suc n) e h is = next_passes test xs n e h is

-- ---- single entries

-- an entry that is there is one alone
pub some_is : (x y : Entry) → ◌≡◌ {A = Option Entry} (Some x) (Some y) → x ≡ y
some_is x y h = cc

pub none_is : (y : Entry) → ◌≡◌ {A = Option Entry} None (Some y) → ⊥
none_is y h = cc

pub some_get : (es : List Entry) (n : ℕ) (x d : Entry) → Some x ≡ slice_get es n → x ≡ get_or es n d
some_get [] zero x d h = cc
some_get [] (suc n) x d h = cc
some_get (e ∷ es) zero x d h = cc
some_get (e ∷ es) (suc n) x d h = some_get es n x d h

pub run_is_set : (es : List Entry) (n m : ℕ) (x : Entry) → m ≡ n + 1 → n < length es → take n es ++ x ∷ drop m es ≡ set es n x
run_is_set [] n m x e lt = absurd (omega arith)
run_is_set (y ∷ es) n zero x e lt = absurd (omega arith)
run_is_set (y ∷ es) zero (suc m) x e lt = ap (λ k. x ∷ drop k es) (let f : m ≡ 0 = omega arith in f)
run_is_set (y ∷ es) (suc n) (suc m) x e lt = ap (λ zs. y ∷ zs) (run_is_set es n m x (omega arith) (omega arith))

-- a place with an entry lies within the list
pub some_within : (es : List Entry) (n : ℕ) (x : Entry) → Some x ≡ slice_get es n → n < length es
some_within [] zero x h = cc
some_within [] (suc n) x h = cc
some_within (e ∷ es) zero x h = omega arith
some_within (e ∷ es) (suc n) x h = let r = some_within es n x h in omega arith

pub none_within : (es : List Entry) (n : ℕ) → slice_get es n ≡ None → length es ≤ n
none_within [] n h = omega arith
none_within (e ∷ es) zero h = cc
none_within (e ∷ es) (suc n) h = let r = none_within es n h in omega arith
