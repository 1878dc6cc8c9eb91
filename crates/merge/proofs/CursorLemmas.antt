-- The steps of a cursor.
use Rattle.std.proofs.Common.{◌≡◌, ℕ, zero, suc, ◌+◌, ◌<◌, ◌≤◌, ◌^◌, Bool, true, false, cond, ◌&&◌, T, Some, None, List, [], ◌∷◌, ◌++◌, length, take, drop, is_lt, refl, sym, ap, ◌∙◌, subst, arith, take-append-drop, rules}
use Rattle.std.specs.Prelude.{◌==◌, nat_lt, nat_le, slice_get}
use Rattle.std.specs.List.{list_all}
use Rattle.std.proofs.lemmas.Bool.Decides.{nat_tests}
use Rattle.std.proofs.lemmas.List.{take_more}
use Rattle.std.proofs.lemmas.Option.{get_or_from_slice_get, slice_get_within}
use Rattle.values.specs.declared.row.Row.{Row}
use Rattle.values.specs.declared.row.Key.{Key}
use Rattle.model.specs.declared.entry.Entry.{Entry}
use Rattle.model.specs.declared.entry.Change.{Change}
use Rattle.model.specs.declared.entry.Change.TheVariants.{Ins, Del, Mod}
use Rattle.model.specs.Entries.{entry_at, is_delete, entry_cmp, are_ordered, IsLawful}
use Rattle.model.specs.Merging.{merged_rows_from}
use Rattle.model.proofs.CallerLemmas.{both, first, second, changes_at_other, merged_rows_from_insert, merged_rows_from_delete}
use Rattle.merge.specs.Level.{stands_within, IsOver}
use Rattle.merge.specs.View.{cells_at}
use Rattle.merge.specs.Cursor.{TreeCursor, entries_left, is_past, IsCursor, entries_past, starts_with_delete, DeletesNext, InsertsNext}
use Rattle.merge.proofs.LevelLemmas.{le_of, all_from, all_from-after, after_delete}
use Rattle.std.proofs.lemmas.Grind.{common_steps}

pub same_of : (a b : ℕ) → (a == b) ≡ true → a ≡ b
same_of a b h = grind (arith, nat_tests)

pub same_itself : (a : ℕ) → (a == a) ≡ true
same_itself a = grind (arith, nat_tests)

pub lt_of : (a b : ℕ) → T (nat_lt a b) → a < b
lt_of a b h = grind (arith, nat_tests)

pub of_lt : (a b : ℕ) → a < b → T (nat_lt a b)
of_lt a b h = grind (arith, nat_tests)

-- ---- a list at a place

-- from a place on, a list is what stands there and what stands after it
pub drop-at : {X : Type 0} (xs : List X) (n : ℕ) (x : X) → slice_get xs n ≡ Some x → drop n xs ≡ x ∷ drop (n + 1) xs
drop-at [] n x is = cc
drop-at (y ∷ xs) zero x is = search rules
drop-at (y ∷ xs) (suc n) x is = let e : suc n + 1 ≡ suc (n + 1) = omega arith in drop-at xs n x is ∙ ap (λ m. x ∷ drop m (y ∷ xs)) (sym e)

pub slice_get-drop : {X : Type 0} (xs : List X) (n : ℕ) (x : X) (rest : List X) → drop n xs ≡ x ∷ rest → slice_get xs n ≡ Some x
slice_get-drop [] zero x rest is = cc
slice_get-drop [] (suc n) x rest is = cc
slice_get-drop (y ∷ xs) zero x rest is = cc
slice_get-drop (y ∷ xs) (suc n) x rest is = slice_get-drop xs n x rest is

pub take-at : {X : Type 0} (xs : List X) (n : ℕ) (x : X) → slice_get xs n ≡ Some x → take (n + 1) xs ≡ take n xs ++ x ∷ []
take-at xs n x is = take_more xs n x (slice_get_within xs n x is) ∙ ap (λ y. take n xs ++ y ∷ []) (get_or_from_slice_get xs n x x is)

pub drop-none : {X : Type 0} (xs : List X) (n : ℕ) → slice_get xs n ≡ None → drop n xs ≡ []
drop-none [] zero is = refl
drop-none [] (suc n) is = refl
drop-none (x ∷ xs) zero is = cc
drop-none (x ∷ xs) (suc n) is = drop-none xs n is

pub all-append : {X : Type 0} (p : X → Bool) (xs ys : List X) → T (list_all p xs) → T (list_all p ys) → T (list_all p (xs ++ ys))
all-append p [] ys h k = k
all-append p (x ∷ xs) ys h k = both (p x) _ (first (p x) _ h) (all-append p xs ys (second (p x) _ h) k)

-- a lawful list has its entries at SIDs below 2^32
pub placed_at : (key_cols : ℕ) (es : List Entry) (n : ℕ) (x : Entry) → IsLawful key_cols es → slice_get es n ≡ Some x → x.sid < 2 ^ 32
placed_at key_cols es n x h is = subst (λ y. y.sid < 2 ^ 32) (get_or_from_slice_get es n x x is) (h.placed n x (slice_get_within es n x is))

-- and is no longer than 2^40
pub place_fits : (key_cols : ℕ) (es : List Entry) (n : ℕ) (x : Entry) → IsLawful key_cols es → slice_get es n ≡ Some x → n < 2 ^ 40
place_fits key_cols es n x h is = omega (arith, h.counted, slice_get_within es n x is)

-- ---- the test of a delete

pub starts-some : (sid : ℕ) (es : List Entry) (n : ℕ) (x : Entry) → slice_get es n ≡ Some x
    → starts_with_delete sid (drop n es) ≡ (x.sid == sid) && is_delete x.change
starts-some sid es n x is = ap (starts_with_delete sid) (drop-at es n x is)

pub starts-none : (sid : ℕ) (es : List Entry) (n : ℕ) → slice_get es n ≡ None → starts_with_delete sid (drop n es) ≡ false
starts-none sid es n is = ap (starts_with_delete sid) (drop-none es n is)

pub not_same : (a b : ℕ) → (a ≡ b → ⊥) → (a == b) ≡ false
not_same a b h = elim (a == b) as (λ r. (a == b) ≡ r → r ≡ false) [ true ↦ λ e. absurd (h (same_of a b e)) | false ↦ λ e. refl ] refl

pub starts-same : (sid : ℕ) (es : List Entry) (n : ℕ) (x : Entry) → slice_get es n ≡ Some x → x.sid ≡ sid
    → starts_with_delete sid (drop n es) ≡ is_delete x.change
starts-same sid es n x is same = starts-some sid es n x is ∙ ap (λ b. b && is_delete x.change) (ap (λ k. k == sid) same ∙ same_itself sid)

pub starts-other : (sid : ℕ) (es : List Entry) (n : ℕ) (x : Entry) → slice_get es n ≡ Some x → (x.sid ≡ sid → ⊥)
    → starts_with_delete sid (drop n es) ≡ false
starts-other sid es n x is other = starts-some sid es n x is ∙ ap (λ b. b && is_delete x.change) (not_same x.sid sid other)

-- only an entry at the SID passes it
pub starts-fits : (key_cols sid : ℕ) (es : List Entry) (n : ℕ) → IsLawful key_cols es → starts_with_delete sid (drop n es) ≡ true
    → (sid < 2 ^ 32) × (n < length es)
starts-fits key_cols sid es n h test = grind (arith, common_steps, slice_get-drop, placed_at, same_of, slice_get_within)

-- ---- entries that are past

is_past-weaken : (n m : ℕ) (e : Entry) → n ≤ m → T (is_past n e) → T (is_past m e)
is_past-weaken n m e le h = search rules

pub past-weaken : (n m : ℕ) (es : List Entry) → n ≤ m → T (list_all (is_past n) es) → T (list_all (is_past m) es)
past-weaken n m [] le h = tt
past-weaken n m (e ∷ es) le h =
    both (is_past m e) _ (is_past-weaken n m e le (first (is_past n e) _ h)) (past-weaken n m es le (second (is_past n e) _ h))

pub below_past : (n : ℕ) (e : Entry) → e.sid < n → T (is_past n e)
below_past n e lt = search rules

pub insert_past : (n sid : ℕ) (row : Row) → T (is_past n (entry_at sid (Ins row)))
insert_past n sid row = search rules

-- one more entry is past
pub one_past : (n place : ℕ) (es : List Entry) (x : Entry) → slice_get es place ≡ Some x → T (is_past n x)
    → T (list_all (is_past n) (take place es)) → T (list_all (is_past n) (take (place + 1) es))
one_past n place es x is h past =
    subst (λ xs. T (list_all (is_past n) xs)) (sym (take-at es place x is))
    (all-append (is_past n) (take place es) (x ∷ []) past (both (is_past n x) _ h tt))

-- no modify of the next row is past
cells-past : (sid : ℕ) (xs ys : List Entry) → T (list_all (is_past sid) xs) → cells_at sid (xs ++ ys) ≡ cells_at sid ys
cells-past sid [] ys h = refl
cells-past sid (x ∷ xs) ys h =
    grind (arith, common_steps, cells-past sid xs ys (second (is_past sid x) _ h), second, nat_tests, first, changes_at_other, same_of)

pub cells_at-left : (c : TreeCursor) → T (list_all (is_past c.sid) (take c.index c.tree.entries))
    → cells_at c.sid c.tree.entries ≡ cells_at c.sid (entries_left c)
cells_at-left c h =
    ap (cells_at c.sid) (sym (take-append-drop c.index c.tree.entries)) ∙ cells-past c.sid (take c.index c.tree.entries) (entries_left c) h

-- ---- entries over rows

-- entries within, from a later place on
pub within_from : (n m end : ℕ) (es : List Entry) → T (all_from m es) → T (list_all (stands_within n end) es)
    → T (list_all (stands_within m end) es)
within_from n m end [] h w = tt
within_from n m end (e ∷ es) h w = grind (arith, common_steps, within_from n m end es (second (nat_le m e.sid) _ h) (second (stands_within n end e) _ w), both, first, second)

module _ (key_cols : ℕ) where
  pub over_from : (n m end stop : ℕ) (es : List Entry) → end ≡ stop → T (all_from m es) → IsOver key_cols n end es
      → IsOver key_cols m stop es
  over_from n m end stop es is h o = grind (arith, common_steps, within_from)

  pub over_tail : (n end : ℕ) (e : Entry) (es : List Entry) → IsOver key_cols n end (e ∷ es) → IsOver key_cols n end es
  over_tail n end e es o = search rules

-- ---- the steps

module _ (c : TreeCursor) where
  abbrev es : List Entry
  es = c.tree.entries

  abbrev kc : ℕ
  kc = c.tree.key_cols

  -- past an insert
  pub inserts_next : (row : Row) (new : TreeCursor) → slice_get es c.index ≡ Some (entry_at c.sid (Ins row))
      → new ≡ record c { index = c.index + 1 } → InsertsNext row c new
  inserts_next row new is next =
      let n : TreeCursor = record c { index = c.index + 1 } in
      let left : entries_left c ≡ entry_at c.sid (Ins row) ∷ entries_left n = drop-at es c.index (entry_at c.sid (Ins row)) is in
      subst (λ x. InsertsNext row c x) (sym next) (record {
        rows = λ base. ap (merged_rows_from c.sid base) left ∙ merged_rows_from_insert c.sid row base (entries_left n);
        cursor = λ count h. record {
          lawful = h.lawful;
          past = one_past c.sid c.index es (entry_at c.sid (Ins row)) is (insert_past c.sid c.sid row) h.past;
          few = h.few;
          over =
              over_tail kc c.sid (c.sid + count) (entry_at c.sid (Ins row)) (entries_left n)
              (subst (λ xs. IsOver kc c.sid (c.sid + count) xs) left h.over);
        };
      })

  -- past the delete of the next base row
  pub deletes_next : (key : Key) (new : TreeCursor) → slice_get es c.index ≡ Some (entry_at c.sid (Del key))
      → new ≡ record c { index = c.index + 1; sid = c.sid + 1 } → DeletesNext c new
  deletes_next key new is next =
      let x : Entry = entry_at c.sid (Del key) in
      let n : TreeCursor = record c { index = c.index + 1; sid = c.sid + 1 } in
      let left : entries_left c ≡ x ∷ entries_left n = drop-at es c.index x is in
      let later : c.sid < c.sid + 1 = omega arith in
      let step : c.sid + 1 ≡ suc c.sid = omega arith in
      subst (λ y. DeletesNext c y) (sym next) (record {
        some = λ count h.
            let w = subst (λ xs. T (list_all (stands_within c.sid (c.sid + count)) xs)) left h.over.within in
            let lt =
            lt_of c.sid (c.sid + count)
            (second (nat_le c.sid c.sid) (nat_lt c.sid (c.sid + count)) (first (stands_within c.sid (c.sid + count) x) _ w))
            in
            omega arith;
        rows = λ row base h.
            let o = subst (λ xs. T (are_ordered kc xs)) left h.over.ordered in
            ap (merged_rows_from c.sid (row ∷ base)) left
            ∙ merged_rows_from_delete c.sid key row base (entries_left n) (after_delete kc c.sid key (entries_left n)
            (first (list_all (λ y. is_lt (entry_cmp kc x y)) (entries_left n)) _ o))
            ∙ ap (λ m. merged_rows_from m base (entries_left n)) (sym step);
        cursor = λ count h.
            let o = subst (λ xs. IsOver kc c.sid (c.sid + suc count) xs) left h.over in
            let far =
            all_from-after c.sid (entries_left n) (after_delete kc c.sid key (entries_left n)
            (first (list_all (λ y. is_lt (entry_cmp kc x y)) (entries_left n)) _ o.ordered)) in
            let stop : c.sid + suc count ≡ c.sid + 1 + count = omega arith in
            let low : c.sid ≤ c.sid + 1 = omega arith in
            record {
              lawful = h.lawful;
              past =
                  one_past (c.sid + 1) c.index es x is (below_past (c.sid + 1) x later)
                  (past-weaken c.sid (c.sid + 1) (take c.index es) low h.past);
              few = omega (arith, h.few);
              over =
                  over_from kc c.sid (c.sid + 1) (c.sid + suc count) (c.sid + 1 + count) (entries_left n) stop
                  (subst (λ m. T (all_from m (entries_left n))) (sym step) far)
                  (over_tail kc c.sid (c.sid + suc count) x (entries_left n) o);
            };
      })

  -- that is what the test says
  pub deletes_test : (new : TreeCursor) → starts_with_delete c.sid (entries_left c) ≡ true
      → new ≡ record c { index = c.index + 1; sid = c.sid + 1 } → DeletesNext c new
  deletes_test new test next = by (entries_left c) refl test
    where
      at_change : (x : Entry) (rest : List Entry) → entries_left c ≡ x ∷ rest → x.sid ≡ c.sid → (d : Change) → x.change ≡ d
          → is_delete d ≡ true → DeletesNext c new
      at_change x rest left here (Ins row) k t = cc
      at_change x rest left here (Mod col value) k t = cc
      at_change x rest left here (Del key) k t =
          deletes_next key new (slice_get-drop es c.index x rest left ∙ (λ i. Some (entry_at (here i) (k i)))) next

      by : (left : List Entry) → entries_left c ≡ left → starts_with_delete c.sid left ≡ true → DeletesNext c new
      by [] is t = cc
      by (x ∷ rest) is t =
          elim (x.sid == c.sid) as (λ b. (x.sid == c.sid) ≡ b → b && is_delete x.change ≡ true → DeletesNext c new) [
            | true ↦ λ e g. at_change x rest is (same_of x.sid c.sid e) x.change refl g
            | false ↦ λ e g. cc
          ] refl t

-- ---- the entries past a SID

pub entries_past-at : (sid n : ℕ) (es : List Entry) (x : Entry) → slice_get es n ≡ Some x → x.sid ≡ sid
    → entries_past sid (drop n es) ≡ entries_past sid (drop (n + 1) es)
entries_past-at sid n es x is same =
    ap (entries_past sid) (drop-at es n x is)
    ∙ ap (λ b. cond b (entries_past sid (drop (n + 1) es)) (x ∷ drop (n + 1) es)) (ap (λ k. k == sid) same ∙ same_itself sid)

pub entries_past-other : (sid n : ℕ) (es : List Entry) (x : Entry) → slice_get es n ≡ Some x → (x.sid ≡ sid → ⊥)
    → entries_past sid (drop n es) ≡ drop n es
entries_past-other sid n es x is other = grind (arith, common_steps, drop-at, not_same)

pub entries_past-none : (sid n : ℕ) (es : List Entry) → slice_get es n ≡ None → entries_past sid (drop n es) ≡ drop n es
entries_past-none sid n es is = ap (entries_past sid) (drop-none es n is) ∙ sym (drop-none es n is)

-- the entries that are left stand at the cursor or past it
pub cursor-le : (c : TreeCursor) (count : ℕ) (x : Entry) → IsCursor count c → slice_get c.tree.entries c.index ≡ Some x → c.sid ≤ x.sid
cursor-le c count x h is = grind (arith, common_steps, drop-at, le_of, first)
