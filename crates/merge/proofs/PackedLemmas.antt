-- Packed entries, and what they are packed of.
use Rattle.std.proofs.Common.{◌≡◌, ◌∙◌, ◌⊎◌, inl, inr, Option, ℕ, zero, suc, ◌+◌, ◌-◌, ◌<◌, ◌≤◌, Bool, true, false, cond, T, ltb, Some, None, List, [], ◌∷◌, ◌++◌, length, take, drop, get_or, slice_get, is_lt, refl, sym, ap, subst, arith}
use Rattle.std.specs.Prelude.{MatchOption, ◌==◌, ◌||◌, nat_lt, nat_le}
use Rattle.std.specs.List.{list_all}
use Rattle.std.specs.List.Sorted.{IsNonDecreasingBy, IsPartitionPoint}
use Rattle.std.proofs.lemmas.List.{length-drop}
use Rattle.values.specs.declared.row.Row.{Row}
use Rattle.model.specs.declared.entry.Entry.{Entry}
use Rattle.model.specs.declared.entry.Change.{Change}
use Rattle.model.specs.declared.entry.Change.TheVariants.{Ins, Del, Mod}
use Rattle.model.specs.Entries.{entry_at, is_insert, is_delete, is_modify, are_ordered, entry_cmp}
use Rattle.model.proofs.CallerLemmas.{both, first, second}
use Rattle.merge.specs.Cursor.{is_past}
use Rattle.merge.specs.Filling.{patches_from}
use Rattle.merge.specs.Packed.{is_gone, left_from, patch_at, patches_in, place_of, row_change_at, row_changes_from, row_in, rows_after}
use Rattle.merge.specs.Packed.{rows_in, sid_of, with_first}
use Rattle.merge.specs.declared.packed.Patch.{Patch}
use Rattle.merge.specs.declared.packed.RowChange.{RowChange}
use Rattle.merge.specs.declared.packed.RowChange.TheVariants.{Insert, Delete}
use Rattle.merge.proofs.CursorLemmas.{lt_of, of_lt}
use Rattle.merge.proofs.LevelLemmas.{all_from, from_head, le_of, of_le}

-- ---- rows that are inserted

pub rows_in-append : (es fs : List Entry) → rows_in (es ++ fs) ≡ rows_in es ++ rows_in fs
rows_in-append [] fs = refl
rows_in-append (e ∷ es) fs = by e.change (rows_in-append es fs)
  where
    by : (c : Change) → rows_in (es ++ fs) ≡ rows_in es ++ rows_in fs
        → rows_in (entry_at e.sid c ∷ es ++ fs) ≡ rows_in (entry_at e.sid c ∷ es) ++ rows_in fs
    by (Ins row) rest = ap (λ rs. row ∷ rs) rest
    by (Del key) rest = rest
    by (Mod col value) rest = rest

pub rows_after-count : (k : ℕ) (e : Entry) (es : List Entry) → rows_after k e.change + length (rows_in es) ≡ k + length (rows_in (e ∷ es))
rows_after-count k e es = by e.change refl
  where
    by : (c : Change) → e.change ≡ c
        → rows_after k c + length (rows_in es) ≡ k + length (rows_in (entry_at e.sid c ∷ es))
    by (Ins row) is = omega arith
    by (Del key) is = refl
    by (Mod col value) is = refl

pub rows_in-le : (es : List Entry) → length (rows_in es) ≤ length es
rows_in-le [] = omega arith
rows_in-le (e ∷ es) = by e.change (rows_in-le es)
  where
    by : (c : Change) → length (rows_in es) ≤ length es → length (rows_in (entry_at e.sid c ∷ es)) ≤ suc (length es)
    by (Ins row) le = omega (arith, le)
    by (Del key) le = omega (arith, le)
    by (Mod col value) le = omega (arith, le)

-- entries that are all modifies
abbrev pub all_modify : List Entry → Bool
all_modify es = list_all (λ (e : Entry). is_modify e.change) es

pub modifies_none : (es : List Entry) → T (all_modify es) → rows_in es ≡ []
modifies_none [] h = refl
modifies_none (e ∷ es) h = by e.change refl (modifies_none es (second (is_modify e.change) _ h))
  where
    by : (c : Change) → e.change ≡ c → rows_in es ≡ [] → rows_in (entry_at e.sid c ∷ es) ≡ []
    by (Ins row) is rest = absurd (subst (λ c. T (is_modify c)) is (first (is_modify e.change) _ h))
    by (Del key) is rest = rest
    by (Mod col value) is rest = rest

pub all_modify-take : (n m : ℕ) (es : List Entry) → n ≤ m → T (all_modify (take m es)) → T (all_modify (take n es))
all_modify-take zero m es le h = tt
all_modify-take (suc n) zero es le h = absurd (omega (arith, le))
all_modify-take (suc n) (suc m) [] le h = tt
all_modify-take (suc n) (suc m) (e ∷ es) le h =
    both (is_modify e.change) _ (first (is_modify e.change) _ h)
    (all_modify-take n m es (omega (arith, le)) (second (is_modify e.change) _ h))

pub all_modify-some : (n : ℕ) (es : List Entry) → T (all_modify es) → T (all_modify (take n es))
all_modify-some zero es h = tt
all_modify-some (suc n) [] h = tt
all_modify-some (suc n) (e ∷ es) h =
    both (is_modify e.change) _ (first (is_modify e.change) _ h) (all_modify-some n es (second (is_modify e.change) _ h))

-- ---- inserts and deletes

-- modifies are passed over
pub changes-modifies : (rows place n : ℕ) (es : List Entry) → T (all_modify (take n es))
    → row_changes_from rows place es ≡ row_changes_from rows (place + n) (drop n es)
changes-modifies rows place zero es h = let e : place ≡ place + 0 = omega arith in ap (λ k. row_changes_from rows k es) e
changes-modifies rows place (suc n) [] h = refl
changes-modifies rows place (suc n) (e ∷ es) h =
    by e.change refl
    ∙ changes-modifies rows (suc place) n es (second (is_modify e.change) _ h)
    ∙ ap (λ k. row_changes_from rows k (drop n es)) (omega arith)
  where
    by : (c : Change) → e.change ≡ c → row_changes_from rows place (e ∷ es) ≡ row_changes_from rows (suc place) es
    by (Ins row) is = absurd (subst (λ c. T (is_modify c)) is (first (is_modify e.change) _ h))
    by (Del key) is = absurd (subst (λ c. T (is_modify c)) is (first (is_modify e.change) _ h))
    by (Mod col value) is =
        ap (λ c. with_first (row_change_at rows place e.sid c) (row_changes_from (rows_after rows c) (suc place) es)) is

-- the next insert or delete, past modifies
pub record IsNextChange (rows place : ℕ) (es : List Entry) (change : RowChange) (rest : List RowChange) : Type 0 where
  pub at : ℕ
  pub entry : Entry
  pub there : slice_get es at ≡ Some entry
  pub before : T (all_modify (take at es))
  pub is : row_change_at rows (place + at) entry.sid entry.change ≡ Some change
  pub rest_is : rest ≡ row_changes_from (rows_after rows entry.change) (place + at + 1) (drop (at + 1) es)

pub next_change : (rows place : ℕ) (es : List Entry) (change : RowChange) (rest : List RowChange)
    → row_changes_from rows place es ≡ change ∷ rest → IsNextChange rows place es change rest
next_change rows place [] change rest is = cc
next_change rows place (e ∷ es) change rest is = by e.change refl is (next_change rows (suc place) es change rest)
  where
    heads : (x : RowChange) (xs : List RowChange) → x ∷ xs ≡ change ∷ rest → Some x ≡ Some change
    heads x xs h = cc

    tails : (x : RowChange) (xs : List RowChange) → x ∷ xs ≡ change ∷ rest → rest ≡ xs
    tails x xs h = cc

    one : place + 0 + 1 ≡ suc place
    one = omega arith

    none : place + 0 ≡ place
    none = omega arith

    here : (c : Change) (x : RowChange) → e.change ≡ c → row_change_at rows place e.sid c ≡ Some x
        → x ∷ row_changes_from (rows_after rows c) (suc place) es ≡ change ∷ rest
        → IsNextChange rows place (e ∷ es) change rest
    here c x k there h = record {
      at = 0;
      entry = e;
      there = refl;
      before = tt;
      is =
          ap (λ n. row_change_at rows n e.sid e.change) none
          ∙ ap (row_change_at rows place e.sid) k
          ∙ there
          ∙ heads x (row_changes_from (rows_after rows c) (suc place) es) h;
      rest_is =
          tails x (row_changes_from (rows_after rows c) (suc place) es) h
          ∙ ap (λ d. row_changes_from (rows_after rows d) (suc place) es) (sym k)
          ∙ ap (λ n. row_changes_from (rows_after rows e.change) n es) (sym one);
    }

    by : (c : Change) → e.change ≡ c
        → with_first (row_change_at rows place e.sid c) (row_changes_from (rows_after rows c) (suc place) es) ≡ change ∷ rest
        → (row_changes_from rows (suc place) es ≡ change ∷ rest → IsNextChange rows (suc place) es change rest)
        → IsNextChange rows place (e ∷ es) change rest
    by (Ins row) k h more = here (Ins row) (Insert e.sid place rows) k refl h
    by (Del key) k h more = here (Del key) (Delete e.sid place) k refl h
    by (Mod col value) k h more =
        let f = more h in
        let step : place + suc f.at ≡ suc place + f.at = omega arith in
        let next : place + suc f.at + 1 ≡ suc place + f.at + 1 = omega arith in
        let one_on : suc f.at + 1 ≡ suc (f.at + 1) = omega arith in
        record {
          at = suc f.at;
          entry = f.entry;
          there = f.there;
          before = both (is_modify e.change) _ (subst (λ c. T (is_modify c)) (sym k) tt) f.before;
          is = ap (λ n. row_change_at rows n f.entry.sid f.entry.change) step ∙ f.is;
          rest_is =
              f.rest_is
              ∙ (λ i. row_changes_from (rows_after rows f.entry.change) (sym next i) (drop (f.at + 1) es))
              ∙ ap (λ n. row_changes_from (rows_after rows f.entry.change) (place + suc f.at + 1) (drop n (e ∷ es))) (sym one_on);
        }

-- no insert or delete is left
pub no_change : (rows place : ℕ) (es : List Entry) → row_changes_from rows place es ≡ [] → T (all_modify es)
no_change rows place [] is = tt
no_change rows place (e ∷ es) is = by e.change refl is (no_change rows (suc place) es)
  where
    by : (c : Change) → e.change ≡ c
        → with_first (row_change_at rows place e.sid c) (row_changes_from (rows_after rows c) (suc place) es) ≡ []
        → (row_changes_from rows (suc place) es ≡ [] → T (all_modify es)) → T (all_modify (e ∷ es))
    by (Ins row) k h more = cc
    by (Del key) k h more = cc
    by (Mod col value) k h more = both (is_modify e.change) _ (subst (λ c. T (is_modify c)) (sym k) tt) (more h)

-- what a packed insert or delete says of its change
pub record IsRowChange (rows place sid : ℕ) (c : Change) (change : RowChange) : Type 0 where
  pub sid_is : sid_of change ≡ sid
  pub place_is : place_of change ≡ place
  pub gone_is : is_gone change ≡ is_delete c
  pub other : is_modify c ≡ false
  pub row_is : MatchOption (row_in change) (is_insert c ≡ false) (λ row. (inserted : Row) × (c ≡ Ins inserted) × (row ≡ rows))

pub row_change : (rows place sid : ℕ) (c : Change) (change : RowChange) → row_change_at rows place sid c ≡ Some change
    → IsRowChange rows place sid c change
row_change rows place sid (Ins row) change is =
    let same : Insert sid place rows ≡ change = cc in
    subst (λ x. IsRowChange rows place sid (Ins row) x) same
    (record { sid_is = refl; place_is = refl; gone_is = refl; other = refl; row_is = (row, refl, refl) })
row_change rows place sid (Del key) change is =
    let same : Delete sid place ≡ change = cc in
    subst (λ x. IsRowChange rows place sid (Del key) x) same
    (record { sid_is = refl; place_is = refl; gone_is = refl; other = refl; row_is = refl })
row_change rows place sid (Mod col value) change is = cc

-- ---- what is left of ascending lists

pub no_below : {X : Type 0} (number : X → ℕ) (least : ℕ) (xs : List X) → T (list_all (λ x. nat_le least (number x)) xs)
    → left_from number least xs ≡ xs
no_below number least [] h = refl
no_below number least (x ∷ xs) h =
    ap (λ b. cond b (left_from number least xs) (x ∷ xs))
    (not_below (number x) (le_of least (number x) (first (nat_le least (number x)) _ h)))
  where
    not_below : (n : ℕ) → least ≤ n → nat_lt n least ≡ false
    not_below n le = elim (nat_lt n least) as (λ b. nat_lt n least ≡ b → b ≡ false) [
      | true ↦ λ e. let lt = lt_of n least (subst T (sym e) tt) in absurd (omega (arith, lt, le))
      | false ↦ λ e. refl
    ] refl

pub left_from-point : {X : Type 0} (number : X → ℕ) (least : ℕ) (xs : List X) (k : ℕ) → k ≤ length xs
    → IsPartitionPoint (λ y. ltb (number y) least ≡ true) (λ y. ltb (number y) least ≡ false) xs k
    → left_from number least xs ≡ drop k xs
left_from-point number least [] zero le cut = refl
left_from-point number least [] (suc k) le cut = absurd (omega (arith, le))
left_from-point number least (x ∷ xs) zero le cut =
    ap (λ b. cond b (left_from number least xs) (x ∷ xs)) (cut.1 0 x (omega arith) (omega arith))
left_from-point number least (x ∷ xs) (suc k) le cut =
    ap (λ b. cond b (left_from number least xs) (x ∷ xs)) (cut.0 0 x (omega arith) (omega arith))
    ∙ left_from-point number least xs k (omega (arith, le)) (
      (λ j d low lt. cut.0 (suc j) d (omega arith) (omega (arith, lt))),
      (λ j d low lt. cut.1 (suc j) d (omega (arith, low)) (omega (arith, lt))),
    )

ascends : {X : Type 0} (number : X → ℕ) (x : X) (xs : List X) → T (list_all (λ y. nat_le (number x) (number y)) xs)
    → IsNonDecreasingBy number xs → IsNonDecreasingBy number (x ∷ xs)
ascends {X = X} number x xs far rest = λ i j d le lt. by i j d le lt
  where
    at : (d : X) (ys : List X) (j : ℕ) → j < length ys → T (list_all (λ y. nat_le (number x) (number y)) ys)
        → number x ≤ number (get_or ys j d)
    at d [] j lt h = absurd (omega (arith, lt))
    at d (y ∷ ys) zero lt h = le_of (number x) (number y) (first (nat_le (number x) (number y)) _ h)
    at d (y ∷ ys) (suc j) lt h = at d ys j (omega (arith, lt)) (second (nat_le (number x) (number y)) _ h)

    by : (i j : ℕ) (d : X) → i ≤ j → j < length (x ∷ xs) → number (get_or (x ∷ xs) i d) ≤ number (get_or (x ∷ xs) j d)
    by zero zero d le lt = omega arith
    by zero (suc j) d le lt = at d xs j (omega (arith, lt)) far
    by (suc i) zero d le lt = absurd (omega (arith, le))
    by (suc i) (suc j) d le lt = rest i j d (omega (arith, le)) (omega (arith, lt))

-- the rest of a list as a slice has it
pub rest_of : {X : Type 0} (xs : List X) (k : ℕ) → take (length xs - k) (drop k xs) ≡ drop k xs
rest_of xs k = all (length xs - k) (drop k xs) (omega (arith, length-drop k xs))
  where
    all : {X : Type 0} (n : ℕ) (ys : List X) → length ys ≤ n → take n ys ≡ ys
    all zero [] le = refl
    all zero (y ∷ ys) le = absurd (omega (arith, le))
    all (suc n) [] le = refl
    all (suc n) (y ∷ ys) le = ap (λ zs. y ∷ zs) (all n ys (omega (arith, le)))

-- ---- places of inserts and deletes

places_from : (rows place least : ℕ) (es : List Entry) → least ≤ place
    → T (list_all (λ (x : RowChange). nat_le least (place_of x)) (row_changes_from rows place es))
places_from rows place least [] le = tt
places_from rows place least (e ∷ es) le =
    by e.change (places_from (rows_after rows e.change) (suc place) least es (omega (arith, le)))
  where
    by : (c : Change) → T (list_all (λ (x : RowChange). nat_le least (place_of x)) (row_changes_from (rows_after rows c) (suc place) es))
        → T (list_all (λ (x : RowChange). nat_le least (place_of x))
        (with_first (row_change_at rows place e.sid c) (row_changes_from (rows_after rows c) (suc place) es)))
    by (Ins row) h = both (nat_le least place) _ (of_le least place le) h
    by (Del key) h = both (nat_le least place) _ (of_le least place le) h
    by (Mod col value) h = h

pub places_ascend : (rows place : ℕ) (es : List Entry) → IsNonDecreasingBy place_of (row_changes_from rows place es)
places_ascend rows place [] = λ i j d le lt. absurd (omega (arith, lt))
places_ascend rows place (e ∷ es) = by e.change (places_ascend (rows_after rows e.change) (suc place) es)
  where
    by : (c : Change) → IsNonDecreasingBy place_of (row_changes_from (rows_after rows c) (suc place) es)
        → IsNonDecreasingBy place_of
        (with_first (row_change_at rows place e.sid c) (row_changes_from (rows_after rows c) (suc place) es))
    by (Ins row) h =
        ascends place_of (Insert e.sid place rows) (row_changes_from (suc rows) (suc place) es)
        (places_from (suc rows) (suc place) place es (omega arith)) h
    by (Del key) h =
        ascends place_of (Delete e.sid place) (row_changes_from rows (suc place) es)
        (places_from rows (suc place) place es (omega arith)) h
    by (Mod col value) h = h

-- the inserts and deletes from a place on
pub changes_from_place : (rows place n : ℕ) (es : List Entry)
    → left_from place_of (place + n) (row_changes_from rows place es)
    ≡ row_changes_from (rows + length (rows_in (take n es))) (place + n) (drop n es)
changes_from_place rows place zero es =
    let same : place ≡ place + 0 = omega arith in
    let none : rows ≡ rows + 0 = omega arith in
    no_below place_of (place + 0) (row_changes_from rows place es) (places_from rows place (place + 0) es (omega arith))
    ∙ (λ i. row_changes_from (none i) (same i) es)
changes_from_place rows place (suc n) [] = refl
changes_from_place rows place (suc n) (e ∷ es) =
    by e.change (changes_from_place (rows_after rows e.change) (suc place) n es)
    ∙ ap (λ k. row_changes_from k (place + suc n) (drop n es)) (rows_after-count rows e (take n es))
  where
    step : suc place + n ≡ place + suc n
    step = omega arith

    below : nat_lt place (place + suc n) ≡ true
    below = yes (nat_lt place (place + suc n)) (of_lt place (place + suc n) (omega arith))
      where
        yes : (b : Bool) → T b → b ≡ true
        yes true t = refl
        yes false t = absurd t

    by : (c : Change)
        → left_from place_of (suc place + n) (row_changes_from (rows_after rows c) (suc place) es)
        ≡ row_changes_from (rows_after rows c + length (rows_in (take n es))) (suc place + n) (drop n es)
        → left_from place_of (place + suc n)
        (with_first (row_change_at rows place e.sid c) (row_changes_from (rows_after rows c) (suc place) es))
        ≡ row_changes_from (rows_after rows c + length (rows_in (take n es))) (place + suc n) (drop n es)
    by (Ins row) h =
        let xs = row_changes_from (suc rows) (suc place) es in
        ap (λ b. cond b (left_from place_of (place + suc n) xs) (Insert e.sid place rows ∷ xs)) below
        ∙ subst (λ k. left_from place_of k xs ≡ row_changes_from (suc rows + length (rows_in (take n es))) k (drop n es)) step h
    by (Del key) h =
        let xs = row_changes_from rows (suc place) es in
        ap (λ b. cond b (left_from place_of (place + suc n) xs) (Delete e.sid place ∷ xs)) below
        ∙ subst (λ k. left_from place_of k xs ≡ row_changes_from (rows + length (rows_in (take n es))) k (drop n es)) step h
    by (Mod col value) h =
        let xs = row_changes_from rows (suc place) es in
        subst (λ k. left_from place_of k xs ≡ row_changes_from (rows + length (rows_in (take n es))) k (drop n es)) step h

-- ---- modifies of a column

pub patches_all_from : (col sid : ℕ) (es : List Entry) → T (all_from sid es)
    → T (list_all (λ (p : Patch). nat_le sid p.sid) (patches_in col es))
patches_all_from col sid [] h = tt
patches_all_from col sid (e ∷ es) h = by e.change (patches_all_from col sid es (second (nat_le sid e.sid) _ h))
  where
    at : (b : Bool) (n : Patch) (rest : List Patch) → n.sid ≡ e.sid → T (list_all (λ (p : Patch). nat_le sid p.sid) rest)
        → T (list_all (λ (p : Patch). nat_le sid p.sid) (with_first (cond b (Some n) None) rest))
    at true n rest is k = both (nat_le sid n.sid) _ (subst (λ m. T (nat_le sid m)) (sym is) (first (nat_le sid e.sid) _ h)) k
    at false n rest is k = k

    by : (c : Change) → T (list_all (λ (p : Patch). nat_le sid p.sid) (patches_in col es))
        → T (list_all (λ (p : Patch). nat_le sid p.sid) (with_first (patch_at col e.sid c) (patches_in col es)))
    by (Ins row) k = k
    by (Del key) k = k
    by (Mod other value) k = at (other == col) _ (patches_in col es) refl k

module _ (key_cols col : ℕ) where
  pub patches_ascend : (es : List Entry) → T (are_ordered key_cols es) → IsNonDecreasingBy (λ (p : Patch). p.sid) (patches_in col es)
  patches_ascend [] o = λ i j d le lt. absurd (omega (arith, lt))
  patches_ascend (e ∷ es) o = by e.change (patches_ascend es (second (list_all (λ y. is_lt (entry_cmp key_cols e y)) es) _ o))
    where
      far : T (all_from e.sid es)
      far = from_head key_cols e es (first (list_all (λ y. is_lt (entry_cmp key_cols e y)) es) _ o)

      at : (b : Bool) (n : Patch) → n.sid ≡ e.sid → IsNonDecreasingBy (λ (p : Patch). p.sid) (patches_in col es)
          → IsNonDecreasingBy (λ (p : Patch). p.sid) (with_first (cond b (Some n) None) (patches_in col es))
      at true n is k =
          ascends (λ (p : Patch). p.sid) n (patches_in col es)
          (patches_all_from col n.sid es (subst (λ m. T (all_from m es)) (sym is) far)) k
      at false n is k = k

      by : (c : Change) → IsNonDecreasingBy (λ (p : Patch). p.sid) (patches_in col es)
          → IsNonDecreasingBy (λ (p : Patch). p.sid) (with_first (patch_at col e.sid c) (patches_in col es))
      by (Ins row) k = k
      by (Del key) k = k
      by (Mod other value) k = at (other == col) _ refl k

-- the modifies from a SID on, where no entry before it is left
pub patches_from_place : (col sid n : ℕ) (es : List Entry) → T (list_all (is_past sid) (take n es)) → T (all_from sid (drop n es))
    → patches_from sid (patches_in col es) ≡ patches_in col (drop n es)
patches_from_place col sid zero es past far = no_below (λ (p : Patch). p.sid) sid (patches_in col es) (patches_all_from col sid es far)
patches_from_place col sid (suc n) [] past far = refl
patches_from_place col sid (suc n) (e ∷ es) past far =
    by e.change refl (patches_from_place col sid n es (second (is_past sid e) _ past) far)
  where
    below : is_insert e.change ≡ false → nat_lt e.sid sid ≡ true
    below other = one (nat_lt e.sid sid) (is_insert e.change) (first (is_past sid e) _ past) other
      where
        one : (a b : Bool) → T (a || b) → b ≡ false → a ≡ true
        one true b t o = refl
        one false true t o = cc
        one false false t o = absurd t

    at : (b : Bool) (n : Patch) (rest left : List Patch) → n.sid ≡ e.sid → nat_lt e.sid sid ≡ true
        → patches_from sid rest ≡ left → patches_from sid (with_first (cond b (Some n) None) rest) ≡ left
    at true n rest left is lt k =
        ap (λ b. cond b (patches_from sid rest) (n ∷ rest)) (ap (λ m. nat_lt m sid) is ∙ lt) ∙ k
    at false n rest left is lt k = k

    by : (c : Change) → e.change ≡ c → patches_from sid (patches_in col es) ≡ patches_in col (drop n es)
        → patches_from sid (with_first (patch_at col e.sid c) (patches_in col es)) ≡ patches_in col (drop n es)
    by (Ins row) is k = k
    by (Del key) is k = k
    by (Mod other value) is k =
        at (other == col) _ (patches_in col es) (patches_in col (drop n es)) refl (below (ap is_insert is)) k

-- ---- columns that are packed

-- one column more
pub column_more : {X : Type 0} (xs : List (Option X)) (o : Option X) (col : ℕ) (x : X) → get_or (xs ++ o ∷ []) col None ≡ Some x
    → (get_or xs col None ≡ Some x) ⊎ ((col ≡ length xs) × (o ≡ Some x))
column_more [] o zero x is = inr (refl, is)
column_more [] o (suc col) x is = cc
column_more (y ∷ xs) o zero x is = inl is
column_more (y ∷ xs) o (suc col) x is = by (column_more xs o col x is)
  where
    by : (get_or xs col None ≡ Some x) ⊎ ((col ≡ length xs) × (o ≡ Some x))
        → (get_or xs col None ≡ Some x) ⊎ ((suc col ≡ suc (length xs)) × (o ≡ Some x))
    by (inl h) = inl h
    by (inr h) = inr (ap suc h.0, h.1)
