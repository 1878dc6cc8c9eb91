-- A test that splits entries in order.
use Rattle.std.proofs.Common.{◌≡◌, ℕ, zero, suc, ◌<◌, ◌≤◌, Bool, true, false, not, T, List, [], ◌∷◌, length, take, drop, get_or, nat_cmp, Ordering, Less, Equal, Greater, is_lt, is_gt, refl, arith, rules}
use Rattle.std.specs.List.{list_all}
use Rattle.std.specs.List.Sorted.{IsPartitionedBy, IsPartitionPoint}
use Rattle.std.proofs.lemmas.Float.{T_from_true}
use Rattle.values.specs.Orders.{key_cmp_total}
use Rattle.values.specs.Shape.{key_of}
use Rattle.values.specs.declared.row.Key.{Key}
use Rattle.model.specs.declared.entry.Entry.{Entry}
use Rattle.model.specs.declared.entry.Change.{Change}
use Rattle.model.specs.declared.entry.Change.TheVariants.{Ins, Del, Mod}
use Rattle.model.specs.Entries.{change_cmp, entry_cmp, are_ordered}
use Rattle.model.proofs.CallerLemmas.{both, first, second, turn_less, turn_greater}
use Rattle.delta.specs.Search.{insert_cmp, first_cmp, base_cmp, modify_cmp, past_cmp, stands_before, IsSplit}
use Rattle.std.proofs.lemmas.Grind.{common_steps}

-- a test that holds is true
pub is_true : (b : Bool) → T b → b ≡ true
is_true true h = refl
is_true false h = absurd h

pub greater : (r : Ordering) → T (is_gt r) → r ≡ Greater
greater Less p = absurd p
greater Equal p = absurd p
greater Greater p = refl

pub nat_cmp-greater : (x y : ℕ) → y < x → nat_cmp x y ≡ Greater
nat_cmp-greater x y h = search rules

-- the test of an element, by its index
pub at_index : {A : Type 0} (p : A → Bool) (xs : List A) → T (list_all p xs) → (j : ℕ) (d : A) → j < length xs → T (p (get_or xs j d))
at_index p [] h j d lt = absurd (omega arith)
at_index p (x ∷ xs) h zero d lt = first (p x) _ h
at_index p (x ∷ xs) h (suc j) d lt = let shorter : j < length xs = omega arith in at_index p xs (second (p x) _ h) j d shorter

-- ---- entries in order

module _ (key_cols : ℕ) (cmp : Change → Ordering)
    (closed : (x y : Change) → change_cmp key_cols x y ≡ Less → cmp y ≡ Greater → cmp x ≡ Greater) (sid : ℕ) where
  pub parted : (xs : List Entry) → T (are_ordered key_cols xs) → IsPartitionedBy (stands_before cmp sid) xs
  parted [] h i j d le lt passes = absurd (omega arith)
  parted (x ∷ xs) h zero zero d le lt passes = passes
  parted (x ∷ xs) h zero (suc j) d le lt passes = grind (arith, common_steps)
  parted (x ∷ xs) h (suc i) zero d le lt passes = absurd (omega arith)
  parted (x ∷ xs) h (suc i) (suc j) d le lt passes =
      let shorter : j < length xs = omega arith in
      let lower : i ≤ j = omega arith in
      parted xs (second (list_all (λ y. is_lt (entry_cmp key_cols x y)) xs) _ h) i j d lower shorter passes

-- ---- a partition point, as a split

module _ (test : Entry → Bool) where
  pub all_before : (n : ℕ) (xs : List Entry) → ((k : ℕ) (d : Entry) → 0 ≤ k → k < n → test (get_or xs k d) ≡ true)
      → T (list_all test (take n xs))
  all_before zero xs h = tt
  all_before (suc n) [] h = tt
  all_before (suc n) (x ∷ xs) h =
      let here : test x ≡ true = h 0 x (omega arith) (omega arith) in
      both (test x) _ (T_from_true _ here) (all_before n xs (λ k d low lt. h (suc k) d (omega arith) (omega arith)))

  not_true : (b : Bool) → b ≡ false → T (not b)
  not_true true e = cc
  not_true false e = tt

  pub all_after : (n : ℕ) (xs : List Entry) → ((k : ℕ) (d : Entry) → n ≤ k → k < length xs → test (get_or xs k d) ≡ false)
      → T (list_all (λ e. not (test e)) (drop n xs))
  all_after zero [] h = tt
  all_after (suc n) [] h = tt
  all_after zero (x ∷ xs) h =
      let here : test x ≡ false = h 0 x (omega arith) (omega arith) in
      both (not (test x)) _ (not_true _ here) (all_after zero xs (λ k d low lt. h (suc k) d (omega arith) (omega arith)))
  all_after (suc n) (x ∷ xs) h = all_after n xs (λ k d low lt. h (suc k) d (omega arith) (omega arith))

  pub split_at : (xs : List Entry) (n : ℕ) → n ≤ length xs → IsPartitionPoint (λ y. test y ≡ true) (λ y. test y ≡ false) xs n
      → IsSplit test xs n
  split_at xs n le point = record { within = le; before = all_before n xs point.0; after = all_after n xs point.1 }

-- ---- the orders are closed

module _ (key_cols : ℕ) where
  pub first_cmp-closed : (x y : Change) → change_cmp key_cols x y ≡ Less → first_cmp y ≡ Greater → first_cmp x ≡ Greater
  first_cmp-closed x y b a = cc

  pub insert_cmp-closed : (key : Key) (x y : Change) → change_cmp key_cols x y ≡ Less → insert_cmp key_cols key y ≡ Greater
      → insert_cmp key_cols key x ≡ Greater
  insert_cmp-closed key (Ins row) (Ins other) b a =
      let smaller =
      key_cmp_total.trans (key_of key_cols row) (key_of key_cols other) key b
      (turn_greater key_cmp_total key (key_of key_cols other) a) in
      turn_less key_cmp_total (key_of key_cols row) key smaller
  insert_cmp-closed key (Ins row) (Del k) b a = cc
  insert_cmp-closed key (Ins row) (Mod c v) b a = cc
  insert_cmp-closed key (Del k) (Ins other) b a = cc
  insert_cmp-closed key (Del k) (Del j) b a = cc
  insert_cmp-closed key (Del k) (Mod c v) b a = cc
  insert_cmp-closed key (Mod c v) (Ins other) b a = cc
  insert_cmp-closed key (Mod c v) (Del k) b a = cc
  insert_cmp-closed key (Mod c v) (Mod d w) b a = cc

  pub base_cmp-closed : (x y : Change) → change_cmp key_cols x y ≡ Less → base_cmp y ≡ Greater → base_cmp x ≡ Greater
  base_cmp-closed (Ins row) y b a = refl
  base_cmp-closed (Del k) (Ins other) b a = cc
  base_cmp-closed (Del k) (Del j) b a = cc
  base_cmp-closed (Del k) (Mod c v) b a = cc
  base_cmp-closed (Mod c v) (Ins other) b a = cc
  base_cmp-closed (Mod c v) (Del k) b a = cc
  base_cmp-closed (Mod c v) (Mod d w) b a = cc

  pub modify_cmp-closed : (col : ℕ) (x y : Change) → change_cmp key_cols x y ≡ Less → modify_cmp col y ≡ Greater
      → modify_cmp col x ≡ Greater
  modify_cmp-closed col (Ins row) y b a = refl
  modify_cmp-closed col (Del k) (Ins other) b a = cc
  modify_cmp-closed col (Del k) (Del j) b a = cc
  modify_cmp-closed col (Del k) (Mod c v) b a = cc
  modify_cmp-closed col (Mod c v) (Ins other) b a = cc
  modify_cmp-closed col (Mod c v) (Del k) b a = cc
  modify_cmp-closed col (Mod c v) (Mod d w) b a = search rules

  pub past_cmp-closed : (x y : Change) → change_cmp key_cols x y ≡ Less → past_cmp y ≡ Greater → past_cmp x ≡ Greater
  past_cmp-closed x y b a = refl
