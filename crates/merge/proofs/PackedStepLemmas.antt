-- The walk over a packed tree.
use Rattle.std.proofs.Common.{◌≡◌, ◌∙◌, ◌⊎◌, inl, inr, ℕ, zero, suc, ◌+◌, ◌-◌, ◌<◌, ◌≤◌, Bool, true, false, cond, T, Option, Some, None, List, [], ◌∷◌, ◌++◌, length, take, drop, slice_get, get_or, is_lt, refl, sym, ap, subst, arith}
use Rattle.std.specs.Prelude.{◌==◌, ◌&&◌, nat_lt, nat_le, slice_set}
use Rattle.std.specs.List.{list_all}
use Rattle.std.proofs.lemmas.Bool.Decides.{nat_tests}
use Rattle.std.proofs.lemmas.List.{drop-drop, length-append, take-append-drop}
use Rattle.std.proofs.Math.Seq.{take-add}
use Rattle.values.specs.declared.row.Row.{Row}
use Rattle.values.specs.declared.value.Value.{Value}
use Rattle.model.specs.declared.entry.Entry.{Entry}
use Rattle.model.specs.declared.entry.Change.{Change}
use Rattle.model.specs.declared.entry.Change.TheVariants.{Ins, Del, Mod}
use Rattle.model.specs.Entries.{entry_at, is_insert, is_delete, is_modify, change_cmp, entry_cmp, are_ordered}
use Rattle.model.specs.Merging.{inserted_rows, left_of, merged_rows_from}
use Rattle.model.proofs.CallerLemmas.{both, first, second, changes_at_other, first_place}
use Rattle.merge.specs.Cursor.{TreeCursor, DeletesNext, IsCursor, entries_left, is_past, rows_left, starts_with_delete}
use Rattle.merge.specs.Filling.{KeepsModified, modified_by, modified_rows, modifies_between, past_modifies}
use Rattle.merge.specs.Filling.{patches_before, patches_from, starts_with_insert}
use Rattle.merge.specs.Level.{IsOver, stands_within}
use Rattle.merge.specs.PackedLeft.{changes_left, count_before, count_passed}
use Rattle.merge.specs.ColumnStretches.{PassesRow}
use Rattle.merge.specs.Packed.{patch_at, patches_in, place_of, row_changes_from, rows_after, rows_in, with_first}
use Rattle.merge.specs.declared.packed.Patch.{Patch}
use Rattle.merge.specs.declared.packed.RowChange.{RowChange}
use Rattle.merge.proofs.CursorLemmas.{all-append, below_past, deletes_next, drop-at, drop-none, lt_of, of_lt, over_from, over_tail}
use Rattle.merge.proofs.CursorLemmas.{past-weaken, same_of, starts-none, starts-some, take-at}
use Rattle.merge.proofs.LevelLemmas.{all_from, all_from-ordered, le_of, merged_rows_from-cell, merged_rows_from-gap, of_le}
use Rattle.merge.proofs.PackedLemmas.{IsRowChange, all_modify, all_modify-some, all_modify-take, changes-modifies, modifies_none}
use Rattle.merge.proofs.PackedLemmas.{next_change, no_below, no_change, patches_all_from, row_change, rows_after-count, rows_in-append}

never : (a b : Bool) → b ≡ false → a && b ≡ true → ⊥
never true b n t = cc
never false b n t = cc

left_true : (a b : Bool) → a && b ≡ true → a ≡ true
left_true true b t = refl
left_true false b t = cc

-- past the delete of the next base row, which the test found
pub deleted_next : (c : TreeCursor) {count : ℕ} → IsCursor count c → starts_with_delete c.sid (entries_left c) ≡ true
    → DeletesNext c (record { tree = c.tree; index = c.index + 1; sid = c.sid + 1 })
deleted_next c cursor test = by (slice_get c.tree.entries c.index) refl
  where
    by : (o : Option Entry) → slice_get c.tree.entries c.index ≡ o
        → DeletesNext c (record { tree = c.tree; index = c.index + 1; sid = c.sid + 1 })
    by None is = let t = sym (starts-none c.sid c.tree.entries c.index is) ∙ test in cc
    by (Some e) is = at e.change refl (sym (starts-some c.sid c.tree.entries c.index e is) ∙ test)
      where
        at : (d : Change) → e.change ≡ d → (e.sid == c.sid) && is_delete e.change ≡ true
            → DeletesNext c (record { tree = c.tree; index = c.index + 1; sid = c.sid + 1 })
        at (Ins row) k t = let n = ap is_delete k in absurd (never (e.sid == c.sid) (is_delete e.change) n t)
        at (Mod col value) k t = let n = ap is_delete k in absurd (never (e.sid == c.sid) (is_delete e.change) n t)
        at (Del key) k t =
            let same = same_of e.sid c.sid (left_true (e.sid == c.sid) (is_delete e.change) t) in
            deletes_next c key (record { tree = c.tree; index = c.index + 1; sid = c.sid + 1 })
            (is ∙ (λ i. Some (entry_at (same i) (k i)))) refl

-- ---- rows under modifies

-- a modify of one of the next rows changes it
modified_first : (xs base : List Row) (first k s col : ℕ) (value : Value) (es : List Entry) → s ≡ first + k → k < length xs
    → merged_rows_from first (xs ++ base) (entry_at s (Mod col value) ∷ es)
    ≡ merged_rows_from first (slice_set xs k (slice_set (get_or xs k []) col value) ++ base) es
modified_first [] base first k s col value es is lt = absurd (omega (arith, lt))
modified_first (row ∷ xs) base first zero s col value es is lt =
    let here : s ≡ first = omega (arith, is) in
    ap (λ n. merged_rows_from first (row ∷ (xs ++ base)) (entry_at n (Mod col value) ∷ es)) here
    ∙ merged_rows_from-cell first col value row (xs ++ base) es
modified_first (row ∷ xs) base first (suc k) s col value es is lt =
    let other : (s == first) ≡ false = apart s first (omega (arith, is)) in
    let here = changes_at_other first (entry_at s (Mod col value)) es other in
    let rest = modified_first xs base (suc first) k s col value es (omega (arith, is)) (omega (arith, lt)) in
    λ i. inserted_rows (here i) ++ (left_of row (here i) ++ rest i)
  where
    apart : (a b : ℕ) → b < a → (a == b) ≡ false
    apart a b h = grind (arith, nat_tests)

length-modified : (first sid : ℕ) (c : Change) (xs : List Row) → length (modified_by first sid c xs) ≡ length xs
length-modified first sid (Ins row) xs = refl
length-modified first sid (Del key) xs = refl
length-modified first sid (Mod col value) xs = length-set xs (sid - first) _
  where
    length-set : (ys : List Row) (i : ℕ) (y : Row) → length (slice_set ys i y) ≡ length ys
    length-set [] zero y = refl
    length-set [] (suc i) y = refl
    length-set (x ∷ ys) zero y = refl
    length-set (x ∷ ys) (suc i) y = ap suc (length-set ys i y)

pub length-modified_rows : (first : ℕ) (es : List Entry) (xs : List Row) → length (modified_rows first es xs) ≡ length xs
length-modified_rows first [] xs = refl
length-modified_rows first (e ∷ es) xs =
    length-modified_rows first es (modified_by first e.sid e.change xs) ∙ length-modified first e.sid e.change xs

-- what a modify between two places says
pub between_of : (a b : ℕ) (e : Entry) → T (modifies_between a b e) → (a ≤ e.sid) × (e.sid < b) × T (is_modify e.change)
between_of a b e h =
    let here = assoc (nat_le a e.sid) (nat_lt e.sid b) (is_modify e.change) h in
    let f = first (nat_le a e.sid && nat_lt e.sid b) (is_modify e.change) here in (
      le_of a e.sid (first (nat_le a e.sid) _ f),
      lt_of e.sid b (second (nat_le a e.sid) _ f),
      second (nat_le a e.sid && nat_lt e.sid b) (is_modify e.change) (assoc (nat_le a e.sid) (nat_lt e.sid b) (is_modify e.change) h),
    )
  where
    assoc : (x y z : Bool) → T (x && y && z) → T ((x && y) && z)
    assoc true y z t = t
    assoc false y z t = t

pub between : (a b : ℕ) (e : Entry) → a ≤ e.sid → e.sid < b → T (is_modify e.change) → T (modifies_between a b e)
between a b e low high is = back (nat_le a e.sid) (nat_lt e.sid b) (is_modify e.change) (of_le a e.sid low) (of_lt e.sid b high) is
  where
    back : (x y z : Bool) → T x → T y → T z → T (x && y && z)
    back true true true s t u = tt
    back true true false s t u = u
    back true false z s t u = absurd t
    back false y z s t u = absurd s

module _ (first_sid : ℕ) (base : List Row) (rest : List Entry) where
  pub rows_modified : (es : List Entry) (xs : List Row) → T (list_all (modifies_between first_sid (first_sid + length xs)) es)
      → T (all_from (first_sid + length xs) rest)
      → merged_rows_from first_sid (xs ++ base) (es ++ rest)
      ≡ modified_rows first_sid es xs ++ merged_rows_from (first_sid + length xs) base rest
  rows_modified [] xs all far =
      let inside : length xs ≤ length (xs ++ base) = omega (arith, length-append xs base) in
      merged_rows_from-gap (length xs) first_sid (first_sid + length xs) (xs ++ base) rest refl inside far
      ∙ (λ i. take_front xs i ++ merged_rows_from (first_sid + length xs) (drop_front xs i) rest)
    where
      take_front : (ys : List Row) → take (length ys) (ys ++ base) ≡ ys
      take_front [] = refl
      take_front (y ∷ ys) = ap (λ zs. y ∷ zs) (take_front ys)

      drop_front : (ys : List Row) → drop (length ys) (ys ++ base) ≡ base
      drop_front [] = refl
      drop_front (y ∷ ys) = drop_front ys
  rows_modified (e ∷ es) xs all far = by e.change refl (rows_modified es)
    where
      here : (first_sid ≤ e.sid) × (e.sid < first_sid + length xs) × T (is_modify e.change)
      here = between_of first_sid (first_sid + length xs) e (first (modifies_between first_sid (first_sid + length xs) e) _ all)

      by : (c : Change) → e.change ≡ c
          → ((ys : List Row) → T (list_all (modifies_between first_sid (first_sid + length ys)) es)
          → T (all_from (first_sid + length ys) rest)
          → merged_rows_from first_sid (ys ++ base) (es ++ rest)
          ≡ modified_rows first_sid es ys ++ merged_rows_from (first_sid + length ys) base rest)
          → merged_rows_from first_sid (xs ++ base) (e ∷ es ++ rest)
          ≡ modified_rows first_sid es (modified_by first_sid e.sid e.change xs) ++ merged_rows_from (first_sid + length xs) base rest
      by (Ins row) is more = absurd (subst (λ c. T (is_modify c)) is here.2)
      by (Del key) is more = absurd (subst (λ c. T (is_modify c)) is here.2)
      by (Mod col value) is more =
          let ys = modified_by first_sid e.sid (Mod col value) xs in
          let same = length-modified first_sid e.sid (Mod col value) xs in
          let next = more ys
          (subst (λ n. T (list_all (modifies_between first_sid (first_sid + n)) es)) (sym same)
          (second (modifies_between first_sid (first_sid + length xs) e) _ all))
          (subst (λ n. T (all_from (first_sid + n) rest)) (sym same) far) in
          ap (λ c. merged_rows_from first_sid (xs ++ base) (entry_at e.sid c ∷ es ++ rest)) is
          ∙ modified_first xs base first_sid (e.sid - first_sid) e.sid col value (es ++ rest) (omega (arith, here.0))
          (omega (arith, here.0, here.1))
          ∙ next
          ∙ ap (λ n. modified_rows first_sid es ys ++ merged_rows_from (first_sid + n) base rest) same
          ∙ ap (λ c. modified_rows first_sid es (modified_by first_sid e.sid c xs) ++ merged_rows_from (first_sid + length xs) base rest)
          (sym is)

-- ---- entries in order

module _ (key_cols : ℕ) where
  pub over_drop : (a end n : ℕ) (es : List Entry) → IsOver key_cols a end es → IsOver key_cols a end (drop n es)
  over_drop a end zero es o = o
  over_drop a end (suc n) [] o = o
  over_drop a end (suc n) (e ∷ es) o = over_drop a end n es (over_tail key_cols a end e es o)

  -- a modify stands before what is none and comes after it
  modify_before : (x e : Entry) → T (is_lt (entry_cmp key_cols x e)) → T (is_modify x.change) → is_modify e.change ≡ false → x.sid < e.sid
  modify_before x e lt is other = by (first_place x.sid e.sid (change_cmp key_cols x.change e.change) lt)
    where
      none : (c d : Change) → T (is_modify c) → is_modify d ≡ false → T (is_lt (change_cmp key_cols c d)) → ⊥
      none (Ins row) d t o h = absurd t
      none (Del key) d t o h = absurd t
      none (Mod col v) (Ins row) t o h = absurd h
      none (Mod col v) (Del key) t o h = absurd h
      none (Mod col v) (Mod other w) t o h = cc

      by : (x.sid < e.sid) ⊎ ((x.sid ≡ e.sid) × T (is_lt (change_cmp key_cols x.change e.change))) → x.sid < e.sid
      by (inl l) = l
      by (inr k) = absurd (none x.change e.change is other k.1)

  pub all_before : (a b n : ℕ) (es : List Entry) (e : Entry) → T (are_ordered key_cols es) → slice_get es n ≡ Some e
      → is_modify e.change ≡ false → T (list_all (modifies_between a b) (take n es)) → T (list_all (modifies_between a e.sid) (take n es))
  all_before a b zero es e o is other h = tt
  all_before a b (suc n) [] e o is other h = tt
  all_before a b (suc n) (x ∷ es) e o is other h =
      let here = between_of a b x (first (modifies_between a b x) _ h) in
      let lt = modify_before x e (at es n e is (first (list_all (λ y. is_lt (entry_cmp key_cols x y)) es) _ o)) here.2 other in
      both (modifies_between a e.sid x) _ (between a e.sid x here.0 lt here.2)
      (all_before a b n es e (second (list_all (λ y. is_lt (entry_cmp key_cols x y)) es) _ o) is other
      (second (modifies_between a b x) _ h))
    where
      at : (ys : List Entry) (k : ℕ) (e : Entry) → slice_get ys k ≡ Some e → T (list_all (λ y. is_lt (entry_cmp key_cols x y)) ys)
          → T (is_lt (entry_cmp key_cols x e))
      at [] zero e is h = cc
      at [] (suc k) e is h = cc
      at (y ∷ ys) zero e is h = subst (λ z. T (is_lt (entry_cmp key_cols x z))) (some_same is) (first (is_lt (entry_cmp key_cols x y)) _ h)
        where
          some_same : {X : Type 0} {x y : X} → Some x ≡ Some y → x ≡ y
          some_same e = cc
      at (y ∷ ys) (suc k) e is h = at ys k e is (second (is_lt (entry_cmp key_cols x y)) _ h)

all_past : (a b : ℕ) (es : List Entry) → T (list_all (modifies_between a b) es) → T (list_all (is_past b) es)
all_past a b [] h = tt
all_past a b (e ∷ es) h =
    both (is_past b e) _ (below_past b e (between_of a b e (first (modifies_between a b e) _ h)).1)
    (all_past a b es (second (modifies_between a b e) _ h))

-- ---- the step

module _ (c : TreeCursor) (most n m : ℕ) (few : m ≤ most) (some : 0 < most → 0 < m) (entries : n ≤ length (entries_left c))
    (within : (base : List Row) → IsCursor (length base) c → most ≤ length (rows_left c base) → m ≤ length base)
    (all : T (list_all (modifies_between c.sid (c.sid + m)) (take n (entries_left c))))
    (far : T (all_from (c.sid + m) (drop n (entries_left c)))) where
  pub keeps_modified : KeepsModified most n m c
  keeps_modified = record {
    few = few;
    some = some;
    entries = entries;
    within = within;
    modifies = all;
    rows = λ xs base is h.
        let es = entries_left c in
        let rest = drop-drop n c.index c.tree.entries in
        ap (merged_rows_from c.sid (xs ++ base)) (sym (take-append-drop n es))
        ∙ rows_modified c.sid base (drop n es) (take n es) xs
        (subst (λ k. T (list_all (modifies_between c.sid (c.sid + k)) (take n es))) (sym is) all)
        (subst (λ k. T (all_from (c.sid + k) (drop n es))) (sym is) far)
        ∙ (λ i. modified_rows c.sid (take n es) xs ++ merged_rows_from (c.sid + is i) base (rest i));
    cursor = λ count h.
        let es = c.tree.entries in
        let low : c.sid ≤ c.sid + m = omega arith in
        let stop : c.sid + (m + count) ≡ c.sid + m + count = omega arith in
        let rest = drop-drop n c.index es in
        record {
          lawful = h.lawful;
          past =
              subst (λ xs. T (list_all (is_past (c.sid + m)) xs)) (sym (take-add c.index n es))
              (all-append (is_past (c.sid + m)) (take c.index es) (take n (drop c.index es))
              (past-weaken c.sid (c.sid + m) (take c.index es) low h.past)
              (all_past c.sid (c.sid + m) (take n (drop c.index es)) all));
          few = omega (arith, h.few);
          over =
              subst (λ xs. IsOver c.tree.key_cols (c.sid + m) (c.sid + m + count) xs) rest
              (over_from c.tree.key_cols c.sid (c.sid + m) (c.sid + (m + count)) (c.sid + m + count) (drop n (drop c.index es)) stop far
              (over_drop c.tree.key_cols c.sid (c.sid + (m + count)) n (drop c.index es) h.over));
        };
  }

-- ---- how far base rows go

-- an entry that is left stands within
module _ (a end : ℕ) where
  stands_at : (es : List Entry) (n : ℕ) (e : Entry) → T (list_all (stands_within a end) es) → slice_get es n ≡ Some e
      → (a ≤ e.sid) × (e.sid ≤ end)
  stands_at [] zero e h is = cc
  stands_at [] (suc n) e h is = cc
  stands_at (x ∷ es) (suc n) e h is = stands_at es n e (second (stands_within a end x) _ h) is
  stands_at (x ∷ es) zero e h is =
      subst (λ (y : Entry). (a ≤ y.sid) × (y.sid ≤ end)) (some_same is)
      (le_of a x.sid (first (nat_le a x.sid) _ w), upper x.change (second (nat_le a x.sid) _ w))
    where
      w : T (stands_within a end x)
      w = first (stands_within a end x) _ h

      some_same : {X : Type 0} {x y : X} → Some x ≡ Some y → x ≡ y
      some_same e = cc

      upper : (c : Change) → T (cond (is_insert c) (nat_le x.sid end) (nat_lt x.sid end)) → x.sid ≤ end
      upper (Ins row) t = le_of x.sid end t
      upper (Del key) t = let lt = lt_of x.sid end t in omega (arith, lt)
      upper (Mod col value) t = let lt = lt_of x.sid end t in omega (arith, lt)

-- ---- how many entries lie before a SID

pub count-le : (s : ℕ) (es : List Entry) → count_before s es ≤ length es
count-le s [] = omega arith
count-le s (e ∷ es) = by (nat_lt e.sid s) (count-le s es)
  where
    by : (b : Bool) → count_before s es ≤ length es → cond b (suc (count_before s es)) 0 ≤ suc (length es)
    by true rest = omega (arith, rest)
    by false rest = omega arith

-- none, where all stand at the SID or past it
pub count-none : (s : ℕ) (es : List Entry) → T (all_from s es) → count_before s es ≡ 0
count-none s [] h = refl
count-none s (e ∷ es) h = by (nat_lt e.sid s) refl
  where
    by : (b : Bool) → nat_lt e.sid s ≡ b → cond b (suc (count_before s es)) 0 ≡ 0
    by true is =
        let lt = lt_of e.sid s (subst T (sym is) tt) in
        let le = le_of s e.sid (first (nat_le s e.sid) _ h) in
        absurd (omega (arith, lt, le))
    by false is = refl

-- first those before one SID, then those before a later one
pub count-add : (s m : ℕ) (es : List Entry)
    → count_before (s + m) es ≡ count_before s es + count_before (s + m) (drop (count_before s es) es)
count-add s m [] = refl
count-add s m (e ∷ es) = by (nat_lt e.sid s) refl (count-add s m es)
  where
    yes : (b : Bool) → T b → b ≡ true
    yes true t = refl
    yes false t = absurd t

    by : (b : Bool) → nat_lt e.sid s ≡ b
        → count_before (s + m) es ≡ count_before s es + count_before (s + m) (drop (count_before s es) es)
        → count_before (s + m) (e ∷ es)
        ≡ cond b (suc (count_before s es)) 0 + count_before (s + m) (drop (cond b (suc (count_before s es)) 0) (e ∷ es))
    by true is rest =
        let lt = lt_of e.sid s (subst T (sym is) tt) in
        let here = yes (nat_lt e.sid (s + m)) (of_lt e.sid (s + m) (omega (arith, lt))) in
        ap (λ b. cond b (suc (count_before (s + m) es)) 0) here ∙ omega (arith, rest)
    by false is rest = let none : count_before (s + m) (e ∷ es) ≡ 0 + count_before (s + m) (e ∷ es) = omega arith in none

-- those that are counted lie before the SID
count-all : (s : ℕ) (es : List Entry) → T (list_all (λ (e : Entry). nat_lt e.sid s) (take (count_before s es) es))
count-all s [] = tt
count-all s (e ∷ es) = by (nat_lt e.sid s) refl (count-all s es)
  where
    by : (b : Bool) → nat_lt e.sid s ≡ b → T (list_all (λ (e : Entry). nat_lt e.sid s) (take (count_before s es) es))
        → T (list_all (λ (e : Entry). nat_lt e.sid s) (take (cond b (suc (count_before s es)) 0) (e ∷ es)))
    by true is rest = both (nat_lt e.sid s) _ (subst T (sym is) tt) rest
    by false is rest = tt

-- and no more than stand before one that doesn't
count-most : (s at : ℕ) (es : List Entry) (e : Entry) → slice_get es at ≡ Some e → s ≤ e.sid → count_before s es ≤ at
count-most s zero [] e is le = cc
count-most s (suc at) [] e is le = cc
count-most s zero (x ∷ es) e is le = by (nat_lt x.sid s) refl
  where
    some_same : {X : Type 0} {x y : X} → Some x ≡ Some y → x ≡ y
    some_same e = cc

    same : x.sid ≡ e.sid
    same = ap (λ (y : Entry). y.sid) (some_same is)

    by : (b : Bool) → nat_lt x.sid s ≡ b → cond b (suc (count_before s es)) 0 ≤ 0
    by true k = let lt = lt_of x.sid s (subst T (sym k) tt) in absurd (omega (arith, lt, le, same))
    by false k = omega arith
count-most s (suc at) (x ∷ es) e is le = by (nat_lt x.sid s) (count-most s at es e is le)
  where
    by : (b : Bool) → count_before s es ≤ at → cond b (suc (count_before s es)) 0 ≤ suc at
    by true rest = omega (arith, rest)
    by false rest = omega arith

module _ (key_cols s : ℕ) where
  not_below : (n : ℕ) → nat_lt n s ≡ false → s ≤ n
  not_below n k = grind (arith, nat_tests)

  -- the others stand at it or past it
  count-from : (es : List Entry) → T (are_ordered key_cols es) → T (all_from s (drop (count_before s es) es))
  count-from [] o = tt
  count-from (e ∷ es) o = by (nat_lt e.sid s) refl (count-from es (second (list_all (λ y. is_lt (entry_cmp key_cols e y)) es) _ o))
    where
      by : (b : Bool) → nat_lt e.sid s ≡ b → T (all_from s (drop (count_before s es) es))
          → T (all_from s (drop (cond b (suc (count_before s es)) 0) (e ∷ es)))
      by true is rest = rest
      by false is rest = all_from-ordered key_cols s e es o (not_below e.sid is)

  none_before : (ps : List Patch) → T (list_all (λ (p : Patch). nat_le s p.sid) ps) → patches_before s ps ≡ []
  none_before [] h = refl
  none_before (p ∷ ps) h = ap (λ b. cond b (p ∷ patches_before s ps) []) (none p.sid (le_of s p.sid (first (nat_le s p.sid) _ h)))
    where
      none : (n : ℕ) → s ≤ n → nat_lt n s ≡ false
      none n le = grind (arith, nat_tests)

  -- the modifies of a column that lie before it, and the others
  pub patches_past : (col : ℕ) (es : List Entry) → T (are_ordered key_cols es)
      → (patches_before s (patches_in col es) ≡ patches_in col (take (count_before s es) es))
      × (patches_from s (patches_in col es) ≡ patches_in col (drop (count_before s es) es))
  patches_past col [] o = (refl, refl)
  patches_past col (e ∷ es) o =
      by (nat_lt e.sid s) refl (patches_past col es (second (list_all (λ y. is_lt (entry_cmp key_cols e y)) es) _ o))
    where
      at : (b : Bool) (p : Patch) (rest before left : List Patch) → nat_lt p.sid s ≡ true
          → (patches_before s rest ≡ before) × (patches_from s rest ≡ left)
          → (patches_before s (with_first (cond b (Some p) None) rest) ≡ with_first (cond b (Some p) None) before)
          × (patches_from s (with_first (cond b (Some p) None) rest) ≡ left)
      at true p rest before left lt k = (
        ap (λ b. cond b (p ∷ patches_before s rest) []) lt ∙ ap (λ ps. p ∷ ps) k.0,
        ap (λ b. cond b (patches_from s rest) (p ∷ rest)) lt ∙ k.1,
      )
      at false p rest before left lt k = k

      more : (c : Change) (n : ℕ) → nat_lt e.sid s ≡ true
          → (patches_before s (patches_in col es) ≡ patches_in col (take n es))
          × (patches_from s (patches_in col es) ≡ patches_in col (drop n es))
          → (patches_before s (with_first (patch_at col e.sid c) (patches_in col es))
          ≡ with_first (patch_at col e.sid c) (patches_in col (take n es)))
          × (patches_from s (with_first (patch_at col e.sid c) (patches_in col es)) ≡ patches_in col (drop n es))
      more (Ins row) n lt k = k
      more (Del key) n lt k = k
      more (Mod other value) n lt k =
          at (other == col) _ (patches_in col es) (patches_in col (take n es)) (patches_in col (drop n es)) lt k

      by : (b : Bool) → nat_lt e.sid s ≡ b
          → (patches_before s (patches_in col es) ≡ patches_in col (take (count_before s es) es))
          × (patches_from s (patches_in col es) ≡ patches_in col (drop (count_before s es) es))
          → (patches_before s (patches_in col (e ∷ es)) ≡ patches_in col (take (cond b (suc (count_before s es)) 0) (e ∷ es)))
          × (patches_from s (patches_in col (e ∷ es)) ≡ patches_in col (drop (cond b (suc (count_before s es)) 0) (e ∷ es)))
      by true is k = more e.change (count_before s es) is k
      by false is k =
          let far = all_from-ordered key_cols s e es o (not_below e.sid is) in
          let all = patches_all_from col s (e ∷ es) far in
          (none_before (patches_in col (e ∷ es)) all, no_below (λ (p : Patch). p.sid) s (patches_in col (e ∷ es)) all)

-- ---- entries that are left

module _ (a end : ℕ) where
  -- entries that stand within stand at the first place or past it
  pub within_all : (es : List Entry) → T (list_all (stands_within a end) es) → T (all_from a es)
  within_all [] h = tt
  within_all (x ∷ es) h =
      both (nat_le a x.sid) _ (first (nat_le a x.sid) _ (first (stands_within a end x) _ h))
      (within_all es (second (stands_within a end x) _ h))

  -- modifies that stand within are of rows before the end
  modifies_inside : (n : ℕ) (es : List Entry) → T (list_all (stands_within a end) es) → T (all_modify (take n es))
      → T (list_all (modifies_between a end) (take n es))
  modifies_inside zero es h k = tt
  modifies_inside (suc n) [] h k = tt
  modifies_inside (suc n) (x ∷ es) h k =
      both (modifies_between a end x) _
      (between a end x (le_of a x.sid (first (nat_le a x.sid) _ w)) (below x.change m (second (nat_le a x.sid) _ w)) m)
      (modifies_inside n es (second (stands_within a end x) _ h) (second (is_modify x.change) _ k))
    where
      w : T (stands_within a end x)
      w = first (stands_within a end x) _ h

      m : T (is_modify x.change)
      m = first (is_modify x.change) _ k

      below : (c : Change) → T (is_modify c) → T (cond (is_insert c) (nat_le x.sid end) (nat_lt x.sid end)) → x.sid < end
      below (Ins row) m t = absurd m
      below (Del key) m t = absurd m
      below (Mod col value) m t = lt_of x.sid end t

  -- those before a SID modify rows before it
  modifies_counted : (b n : ℕ) (es : List Entry) → T (list_all (stands_within a end) es) → T (all_modify (take n es))
      → T (list_all (λ (e : Entry). nat_lt e.sid b) (take n es)) → T (list_all (modifies_between a b) (take n es))
  modifies_counted b zero es h k l = tt
  modifies_counted b (suc n) [] h k l = tt
  modifies_counted b (suc n) (x ∷ es) h k l =
      both (modifies_between a b x) _
      (between a b x (le_of a x.sid (first (nat_le a x.sid) _ (first (stands_within a end x) _ h)))
      (lt_of x.sid b (first (nat_lt x.sid b) _ l)) (first (is_modify x.change) _ k))
      (modifies_counted b n es (second (stands_within a end x) _ h) (second (is_modify x.change) _ k) (second (nat_lt x.sid b) _ l))

between_modify : (a b : ℕ) (es : List Entry) → T (list_all (modifies_between a b) es) → T (all_modify es)
between_modify a b [] h = tt
between_modify a b (e ∷ es) h =
    both (is_modify e.change) _ (between_of a b e (first (modifies_between a b e) _ h)).2
    (between_modify a b es (second (modifies_between a b e) _ h))

get-drop : (es : List Entry) (i n : ℕ) → slice_get (drop i es) n ≡ slice_get es (i + n)
get-drop es zero n = let e : n ≡ 0 + n = omega arith in ap (slice_get es) e
get-drop [] (suc i) zero = refl
get-drop [] (suc i) (suc n) = let e : suc i + suc n ≡ suc (i + suc n) = omega arith in ap (slice_get []) (sym e)
get-drop (x ∷ es) (suc i) n = let e : suc i + n ≡ suc (i + n) = omega arith in get-drop es i n ∙ ap (slice_get (x ∷ es)) (sym e)

-- ---- what is next

-- the first of entries is no delete and no insert at the SID
abbrev pub StartsNone : ℕ → List Entry → Type 0
StartsNone sid es = (starts_with_delete sid es ≡ false) × (starts_with_insert sid es ≡ false)

modify_none : (sid : ℕ) (e : Entry) (es : List Entry) → T (is_modify e.change) → StartsNone sid (e ∷ es)
modify_none sid e es m = by (e.sid == sid) e.change m
  where
    by : (b : Bool) (c : Change) → T (is_modify c) → (b && is_delete c ≡ false) × (b && is_insert c ≡ false)
    by true (Ins row) m = absurd m
    by true (Del key) m = absurd m
    by true (Mod col value) m = (refl, refl)
    by false c m = (refl, refl)

pub modifies_start_none : (sid : ℕ) (es : List Entry) → T (all_modify es) → StartsNone sid es
modifies_start_none sid [] h = (refl, refl)
modifies_start_none sid (e ∷ es) h = modify_none sid e es (first (is_modify e.change) _ h)

-- where the next insert or delete stands at another place
others_start_none : (sid at : ℕ) (es : List Entry) (e : Entry) → slice_get es at ≡ Some e → T (all_modify (take at es))
    → (e.sid ≡ sid → ⊥) → StartsNone sid es
others_start_none sid zero [] e is h other = cc
others_start_none sid (suc at) [] e is h other = cc
others_start_none sid (suc at) (x ∷ es) e is h other = modify_none sid x es (first (is_modify x.change) _ h)
others_start_none sid zero (x ∷ es) e is h other =
    let not = apart (ap (λ (y : Entry). y.sid) (some_same is)) in
    (ap (λ b. b && is_delete x.change) not, ap (λ b. b && is_insert x.change) not)
  where
    some_same : {X : Type 0} {x y : X} → Some x ≡ Some y → x ≡ y
    some_same e = cc

    apart : x.sid ≡ e.sid → (x.sid == sid) ≡ false
    apart same = elim (x.sid == sid) as (λ b. (x.sid == sid) ≡ b → b ≡ false) [
      | true ↦ λ k. absurd (other (sym same ∙ same_of x.sid sid k))
      | false ↦ λ k. refl
    ] refl

-- where the next entry is no insert
pub inserts_other : (sid : ℕ) (es : List Entry) (i : ℕ) (e : Entry) → slice_get es i ≡ Some e → is_insert e.change ≡ false
    → starts_with_insert sid (drop i es) ≡ false
inserts_other sid es i e is none = ap (starts_with_insert sid) (drop-at es i e is) ∙ by (e.sid == sid)
  where
    by : (b : Bool) → b && is_insert e.change ≡ false
    by true = none
    by false = refl

-- the next insert or delete at a cursor, and those that come after it
pub record IsChangeAt (c : TreeCursor) (change : RowChange) (rest : List RowChange) : Type 0 where
  pub at : ℕ
  pub entry : Entry
  pub there : slice_get (entries_left c) at ≡ Some entry
  pub before : T (all_modify (take at (entries_left c)))
  pub is : IsRowChange (length (rows_in (take c.index c.tree.entries))) (c.index + at) entry.sid entry.change change
  pub rest_is : rest ≡ row_changes_from (rows_after (length (rows_in (take c.index c.tree.entries))) entry.change) (c.index + at + 1)
      (drop (at + 1) (entries_left c))

pub change_next : (c : TreeCursor) (changes : List RowChange) (change : RowChange) → changes ≡ changes_left c
    → slice_get changes 0 ≡ Some change → IsChangeAt c change (drop 1 changes)
change_next c changes change are is =
    let k = length (rows_in (take c.index c.tree.entries)) in
    let next = next_change k c.index (entries_left c) change (drop 1 changes) (sym are ∙ drop-at changes 0 change is) in
    record {
      at = next.at;
      entry = next.entry;
      there = next.there;
      before = next.before;
      is = row_change k (c.index + next.at) next.entry.sid next.entry.change change next.is;
      rest_is = next.rest_is;
    }

pub change_none : (c : TreeCursor) (changes : List RowChange) → changes ≡ changes_left c → slice_get changes 0 ≡ None
    → T (all_modify (entries_left c))
change_none c changes are is =
    no_change (length (rows_in (take c.index c.tree.entries))) c.index (entries_left c) (sym are ∙ drop-none changes 0 is)

module _ (c : TreeCursor) {count : ℕ} (cursor : IsCursor count c) (change : RowChange) (rest : List RowChange)
    (next : IsChangeAt c change rest) where
  -- it stands at the next base row's place or past it
  pub change_low : c.sid ≤ next.entry.sid
  change_low = (stands_at c.sid (c.sid + count) (entries_left c) next.at next.entry cursor.over.within next.there).0

  -- at another place no insert or delete is next
  pub change_other : (next.entry.sid ≡ c.sid → ⊥) → StartsNone c.sid (entries_left c)
  change_other other = others_start_none c.sid next.at (entries_left c) next.entry next.there next.before other

  -- at the next base row's place it is the next entry
  pub change_first : next.entry.sid ≡ c.sid → next.at ≡ 0
  change_first same =
      by next.at
      (all_before c.tree.key_cols c.sid (c.sid + count) next.at (entries_left c) next.entry cursor.over.ordered next.there next.is.other
      (modifies_inside c.sid (c.sid + count) next.at (entries_left c) cursor.over.within next.before))
      next.there
    where
      none : (n : ℕ) (es : List Entry) → T (list_all (modifies_between c.sid next.entry.sid) (take (suc n) es))
          → slice_get es (suc n) ≡ Some next.entry → ⊥
      none n [] h is = cc
      none n (x ∷ es) h is =
          let f = between_of c.sid next.entry.sid x (first (modifies_between c.sid next.entry.sid x) _ h) in
          omega (arith, f.0, f.1, same)

      by : (n : ℕ) → T (list_all (modifies_between c.sid next.entry.sid) (take n (entries_left c)))
          → slice_get (entries_left c) n ≡ Some next.entry → n ≡ 0
      by zero h is = refl
      by (suc n) h is = absurd (none n (entries_left c) h is)

  pub change_here : next.entry.sid ≡ c.sid → slice_get c.tree.entries c.index ≡ Some next.entry
  change_here same =
      let none : c.index + 0 ≡ c.index = omega arith in
      ap (slice_get c.tree.entries) (sym none)
      ∙ sym (get-drop c.tree.entries c.index 0)
      ∙ ap (slice_get (entries_left c)) (sym (change_first same))
      ∙ next.there

  -- past it, over base rows from a SID on
  module _ (same : next.entry.sid ≡ c.sid) (sid more : ℕ)
      (over : IsCursor more (record { tree = c.tree; index = c.index + 1; sid = sid })) where
    abbrev past : TreeCursor
    past = record { tree = c.tree; index = c.index + 1; sid = sid }

    pub past_change : (n : ℕ) → n ≡ place_of change + 1 → n + count_before sid (drop n c.tree.entries) ≡ c.index + 1
    past_change n is =
        let place : n ≡ c.index + 1 = omega (arith, is, next.is.place_is, change_first same) in
        let none = count-none sid (entries_left past) (within_all sid (sid + more) (entries_left past) over.over.within) in
        ap (λ k. k + count_before sid (drop k c.tree.entries)) place ∙ omega (arith, none)

    pub past_changes : rest ≡ changes_left past
    past_changes =
        let k = length (rows_in (take c.index c.tree.entries)) in
        let e = next.entry in
        let zero_is = change_first same in
        let plus : c.index + 0 + 1 ≡ c.index + 1 = omega arith in
        let one : 0 + 1 ≡ 1 = omega arith in
        let rows : rows_after k e.change ≡ length (rows_in (take (c.index + 1) c.tree.entries)) =
        sym (ap (λ es. length (rows_in es)) (take-at c.tree.entries c.index e (change_here same))
        ∙ ap (λ rs. length rs) (rows_in-append (take c.index c.tree.entries) (e ∷ []))
        ∙ length-append (rows_in (take c.index c.tree.entries)) (rows_in (e ∷ []))
        ∙ omega (arith, rows_after-count k e [])) in
        next.rest_is
        ∙ ap (λ n. row_changes_from (rows_after k e.change) (c.index + n + 1) (drop (n + 1) (entries_left c))) zero_is
        ∙ (λ i. row_changes_from (rows i) (plus i) (drop (one i) (entries_left c)))
        ∙ ap (row_changes_from (length (rows_in (take (c.index + 1) c.tree.entries))) (c.index + 1)) (drop-drop 1 c.index c.tree.entries)

    pub past_patches : (col : ℕ) → patches_in col (entries_left c) ≡ patches_in col (entries_left past)
    past_patches col =
        ap (patches_in col) (drop-at c.tree.entries c.index next.entry (change_here same))
        ∙ ap (λ o. with_first o (patches_in col (entries_left past))) (none next.entry.change next.is.other)
      where
        none : (x : Change) → is_modify x ≡ false → patch_at col next.entry.sid x ≡ None
        none (Ins row) m = refl
        none (Del key) m = refl
        none (Mod other value) m = cc

-- ---- how far base rows go

module _ (c : TreeCursor) (m : ℕ) {count : ℕ} (cursor : IsCursor count c)
    (inside : T (all_modify (take (count_passed m c) (entries_left c)))) where
  passed_between : T (list_all (modifies_between c.sid (c.sid + m)) (take (count_passed m c) (entries_left c)))
  passed_between =
      modifies_counted c.sid (c.sid + count) (c.sid + m) (count_passed m c) (entries_left c) cursor.over.within inside
      (count-all (c.sid + m) (entries_left c))

  keeps_counted : (most : ℕ) → m ≤ most → (0 < most → 0 < m)
      → ((base : List Row) → IsCursor (length base) c → most ≤ length (rows_left c base) → m ≤ length base)
      → KeepsModified most (count_passed m c) m c
  keeps_counted most few some within =
      keeps_modified c most (count_passed m c) m few some (count-le (c.sid + m) (entries_left c)) within passed_between
      (count-from c.tree.key_cols (c.sid + m) (entries_left c) cursor.over.ordered)

-- where modifies alone are left, the rows that are left are the base's
module _ (c : TreeCursor) (all : T (all_modify (entries_left c))) where
  take_whole : (es : List Entry) → take (length es) es ≡ es
  take_whole [] = refl
  take_whole (x ∷ es) = ap (λ ys. x ∷ ys) (take_whole es)

  append-none : {X : Type 0} (xs : List X) → xs ++ [] ≡ xs
  append-none [] = refl
  append-none (x ∷ xs) = ap (λ ys. x ∷ ys) (append-none xs)

  only_base : (base : List Row) → IsCursor (length base) c → length (rows_left c base) ≡ length base
  only_base base h =
      let es = entries_left c in
      let inside =
      subst (λ xs. T (list_all (modifies_between c.sid (c.sid + length base)) xs)) (take_whole es)
      (modifies_inside c.sid (c.sid + length base) (length es) es h.over.within
      (subst (λ xs. T (all_modify xs)) (sym (take_whole es)) all)) in
      ap (λ xs. length (merged_rows_from c.sid xs es)) (sym (append-none base))
      ∙ ap (λ xs. length (merged_rows_from c.sid (base ++ []) xs)) (sym (append-none es))
      ∙ ap length (rows_modified c.sid [] [] es base inside tt)
      ∙ ap length (append-none (modified_rows c.sid es base))
      ∙ length-modified_rows c.sid es base

  -- as many as are wanted come
  pub keeps_all : (most : ℕ) {count : ℕ} → IsCursor count c → KeepsModified most (count_passed most c) most c
  keeps_all most cursor =
      keeps_counted c most cursor (all_modify-some (count_passed most c) (entries_left c) all) most (omega arith) (λ s. s)
      (λ base h le. omega (arith, le, only_base base h))

-- where no delete or insert is next, the next one stands past the next base row
pub change_past : (c : TreeCursor) {count : ℕ} → IsCursor count c → (change : RowChange) (rest : List RowChange)
    (next : IsChangeAt c change rest) → StartsNone c.sid (entries_left c) → c.sid < next.entry.sid
change_past c {count} cursor change rest next none =
    let low = change_low c cursor change rest next in
    elim (next.entry.sid == c.sid) as (λ t. (next.entry.sid == c.sid) ≡ t → c.sid < next.entry.sid) [
      | true ↦ λ t. let same = same_of next.entry.sid c.sid t in absurd (at_head next.entry (drop (c.index + 1) c.tree.entries)
          (drop-at c.tree.entries c.index next.entry (change_here c cursor change rest next same)) refl same)
      | false ↦ λ t. grind (arith, nat_tests)
    ] refl
  where
    one_of : (x : Change) → is_modify x ≡ false → is_delete x ≡ false → is_insert x ≡ false → ⊥
    one_of (Ins row) m d i = cc
    one_of (Del key) m d i = cc
    one_of (Mod col value) m d i = cc

    same_end : (b : Bool) → (x : Bool) → b ≡ true → b && x ≡ false → x ≡ false
    same_end true x t h = h
    same_end false x t h = cc

    at_head : (x : Entry) (es : List Entry) → entries_left c ≡ x ∷ es → x ≡ next.entry → x.sid ≡ c.sid → ⊥
    at_head x es left is same =
        one_of x.change (ap (λ (y : Entry). is_modify y.change) is ∙ next.is.other)
        (same_end (x.sid == c.sid) (is_delete x.change) (yes x.sid same) (sym (ap (starts_with_delete c.sid) left) ∙ none.0))
        (same_end (x.sid == c.sid) (is_insert x.change) (yes x.sid same) (sym (ap (starts_with_insert c.sid) left) ∙ none.1))
      where
        yes : (n : ℕ) → n ≡ c.sid → (n == c.sid) ≡ true
        yes n e = grind (arith, nat_tests)

-- up to the next row that is inserted or deleted
pub keeps_up_to : (c : TreeCursor) (most m : ℕ) {count : ℕ} → IsCursor count c → (change : RowChange) (rest : List RowChange)
    (next : IsChangeAt c change rest) → m ≤ most → c.sid + m ≤ next.entry.sid → (0 < most → 0 < m)
    → KeepsModified most (count_passed m c) m c
keeps_up_to c most m {count} cursor change rest next few high some =
    let least = count-most (c.sid + m) next.at (entries_left c) next.entry next.there high in
    keeps_counted c m cursor (all_modify-take (count_passed m c) next.at (entries_left c) least next.before) most few some
    (λ base h le.
    let at = stands_at c.sid (c.sid + length base) (entries_left c) next.at next.entry h.over.within next.there in
    omega (arith, at.1, high))

-- the next base row comes next
pub keeps_one : (c : TreeCursor) {count : ℕ} → IsCursor count c → (changes : List RowChange) → changes ≡ changes_left c
    → StartsNone c.sid (entries_left c) → KeepsModified 1 (count_passed 1 c) 1 c
keeps_one c cursor changes are none = by (slice_get changes 0) refl
  where
    by : (o : Option RowChange) → slice_get changes 0 ≡ o → KeepsModified 1 (count_passed 1 c) 1 c
    by None is = keeps_all c (change_none c changes are is) 1 cursor
    by (Some change) is =
        let next = change_next c changes change are is in
        let low = change_past c cursor change (drop 1 changes) next none in
        keeps_up_to c 1 1 cursor change (drop 1 changes) next (omega arith) (omega (arith, low)) (λ s. s)

-- ---- past modifies

module _ (c : TreeCursor) (n m : ℕ) (h : T (list_all (modifies_between c.sid (c.sid + m)) (take n (entries_left c)))) where
  -- the inserts and deletes that are left stay the same
  pub modifies_past : changes_left (past_modifies n m c) ≡ changes_left c
  modifies_past =
      let es = c.tree.entries in
      let k = length (rows_in (take c.index es)) in
      let all = between_modify c.sid (c.sid + m) (take n (entries_left c)) h in
      let rows : length (rows_in (take (c.index + n) es)) ≡ k =
      ap (λ xs. length (rows_in xs)) (take-add c.index n es)
      ∙ ap (λ rs. length rs) (rows_in-append (take c.index es) (take n (entries_left c)))
      ∙ length-append (rows_in (take c.index es)) (rows_in (take n (entries_left c)))
      ∙ omega (arith, ap (λ rs. length rs) (modifies_none (take n (entries_left c)) all)) in
      (λ i. row_changes_from (rows i) (c.index + n) (sym (drop-drop n c.index es) i))
      ∙ sym (changes-modifies k c.index n (entries_left c) all)

-- the next base row with what a packed tree modifies of it
pub skips_modified : (c : TreeCursor) (n m : ℕ) → KeepsModified 1 n m c → (base left : List Row) → PassesRow base left
    → IsCursor (length base) c
    → PassesRow (rows_left c base) (rows_left (past_modifies n 1 c) left) × IsCursor (length left) (past_modifies n 1 c)
skips_modified c n m kept base left p cursor =
    let one : 1 ≡ m = omega (arith, kept.few, kept.some (omega arith)) in
    let over = subst (λ (xs : List Row). IsCursor (length xs) c) p.rows cursor in
    let rows = ap (rows_left c) p.rows ∙ kept.rows (p.row ∷ []) left one (subst (λ j. IsCursor j c) sum over) in
    let next = kept.cursor (length left) (subst (λ j. IsCursor j c) (sum ∙ ap (λ j. j + length left) one) over) in (
      single (modified_rows c.sid (take n (entries_left c)) (p.row ∷ []))
          (length-modified_rows c.sid (take n (entries_left c)) (p.row ∷ []))
          (subst (λ j. rows_left c base ≡ modified_rows c.sid (take n (entries_left c)) (p.row ∷ []) ++ rows_left (past_modifies n j c) left)
          (sym one) rows),
      subst (λ j. IsCursor (length left) (past_modifies n j c)) (sym one) next,
    )
  where
    sum : suc (length left) ≡ 1 + length left
    sum = omega arith

    single : (xs : List Row) → length xs ≡ 1 → rows_left c base ≡ xs ++ rows_left (past_modifies n 1 c) left
        → PassesRow (rows_left c base) (rows_left (past_modifies n 1 c) left)
    single [] e rows = absurd (omega (arith, e))
    single (x ∷ []) e rows = record { row = x; rows = rows }
    single (x ∷ y ∷ xs) e rows = absurd (omega (arith, e))
