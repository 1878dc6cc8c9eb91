-- The steps of a cursor past modifies, and over rows as they are.
use Rattle.std.proofs.Common.{Bor, ◌≡◌, ◌⊎◌, inl, inr, ℕ, suc, ◌+◌, ◌-◌, ◌<◌, ◌≤◌, Bool, true, false, cond, not, T, Some, None, List, rules}
use Rattle.std.proofs.Common.{[], ◌∷◌, ◌++◌, map, length, filter, take, drop, is_lt, refl, sym, ap, ◌∙◌, zero, subst}
use Rattle.std.proofs.Common.{arith, length-append, length-drop}
use Rattle.std.specs.Prelude.{◌==◌, nat_lt, nat_le, ◌||◌, slice_get, slice_set, min}
use Rattle.std.specs.List.{list_all}
use Rattle.std.proofs.lemmas.Bool.Decides.{nat_tests}
use Rattle.std.proofs.lemmas.List.{drop-drop}
use Rattle.values.specs.declared.row.Row.{Row}
use Rattle.values.specs.declared.row.Key.{Key}
use Rattle.values.specs.declared.value.Value.{Value}
use Rattle.model.specs.declared.entry.Entry.{Entry}
use Rattle.values.specs.declared.value.ValueRef.{ValueRef}
use Rattle.delta.specs.declared.ChangeRef.{ChangeRef}
use Rattle.delta.specs.declared.ChangeRef.TheVariants as lent
use Rattle.delta.specs.Lent.{change_of}
use Rattle.model.specs.declared.entry.Change.{Change}
use Rattle.model.specs.declared.entry.Change.TheVariants.{Ins, Del, Mod}
use Rattle.model.specs.Effects.{set_cells}
use Rattle.model.specs.Entries.{entry_at, is_insert, is_delete, is_modify, entry_cmp, are_ordered}
use Rattle.model.specs.Merging.{changes_at, inserted_rows, left_of, merged_rows_from}
use Rattle.model.proofs.CallerLemmas.{both, first, second, changes_at_after, merged_rows_from_past, merged_rows_from_nothing}
use Rattle.merge.specs.Level.{stands_within, IsOver}
use Rattle.merge.specs.View.{modified_cells, cells_at}
use Rattle.merge.specs.Cursor.{TreeCursor, entries_left, is_past, IsCursor, rows_left, entries_past, ChangesNext, DeletesNone}
use Rattle.merge.specs.Cursor.{ModifiesNext, KeepsNext}
use Rattle.merge.proofs.LevelLemmas.{le_of, all_from, all_from-weaken, all_from-ordered, all_after-from, merged_rows_from-gap}
use Rattle.merge.proofs.CursorLemmas.{same_of, same_itself, lt_of, drop-at, drop-none, cells_at-left, past-weaken, over_from}
use Rattle.merge.proofs.CursorLemmas.{over_tail, starts-same}
use Rattle.std.proofs.lemmas.Grind.{common_steps}

-- ---- modifies of one row

-- whether an entry at the SID is a modify
abbrev modifies_at : ℕ → Entry → Bool
modifies_at sid y = not (y.sid == sid) || is_modify y.change

module _ (key_cols sid : ℕ) where
  -- what stands after a modify at its SID is one too
  modify_follows : (col : ℕ) (value : Value) (y : Entry) → T (is_lt (entry_cmp key_cols (entry_at sid (Mod col value)) y))
      → T (modifies_at sid y)
  modify_follows col value y h = search rules

  modifies_follow : (col : ℕ) (value : Value) (es : List Entry)
      → T (list_all (λ y. is_lt (entry_cmp key_cols (entry_at sid (Mod col value)) y)) es) → T (list_all (modifies_at sid) es)
  modifies_follow col value [] h = tt
  modifies_follow col value (y ∷ es) h =
      both (modifies_at sid y) _ (modify_follows col value y (first (is_lt (entry_cmp key_cols (entry_at sid (Mod col value)) y)) _ h))
      (modifies_follow col value es (second (is_lt (entry_cmp key_cols (entry_at sid (Mod col value)) y)) _ h))

  -- past the entries at a SID
  over_past : (end : ℕ) (es : List Entry) → IsOver key_cols sid end es → IsOver key_cols (suc sid) end (entries_past sid es)
  over_past end [] o = record { ordered = tt; within = tt }
  over_past end (e ∷ es) o = grind (arith, common_steps, over_past end es (over_tail key_cols sid end e es o), over_tail, le_of, first, over_from, all_from-ordered, nat_tests)

module _ (sid : ℕ) where
  -- modifies insert nothing
  modifies_insert : (es : List Entry) → T (list_all (modifies_at sid) es) → inserted_rows (changes_at sid es) ≡ []
  modifies_insert [] h = refl
  modifies_insert (y ∷ es) h = grind (arith, common_steps, modifies_insert es (second (modifies_at sid y) _ h), second, first)

  -- and leave the row with their cells
  modifies_leave : (row : Row) (es : List Entry) → T (list_all (modifies_at sid) es)
      → left_of row (changes_at sid es) ≡ set_cells (cells_at sid es) row ∷ []
  modifies_leave row [] h = refl
  modifies_leave row (y ∷ es) h =
      let rest : (r : Row)
      → left_of r (changes_at sid es) ≡ set_cells (cells_at sid es) r ∷ [] = λ r. modifies_leave r es
      (second (modifies_at sid y) _ h) in
      elim (y.sid == sid) as (λ b. T (not b || is_modify y.change)
      → left_of row
      (map (λ e. e.change) (cond b (y ∷ filter (λ e. e.sid == sid) es) (filter (λ e. e.sid == sid) es))) ≡ set_cells
      (modified_cells
      (map (λ e. e.change) (cond b (y ∷ filter (λ e. e.sid == sid) es) (filter (λ e. e.sid == sid) es)))) row ∷ []) [
        | true ↦ λ t. with_head y.change t rest
        | false ↦ λ t. rest row
      ] (first (modifies_at sid y) _ h)
    where
      with_head : (c : Change) → T (is_modify c) → ((r : Row) → left_of r (changes_at sid es) ≡ set_cells (cells_at sid es) r ∷ [])
          → left_of row (c ∷ changes_at sid es) ≡ set_cells (modified_cells (c ∷ changes_at sid es)) row ∷ []
      with_head (Ins new) t r = absurd t
      with_head (Del key) t r = absurd t
      with_head (Mod col value) t r = r (slice_set row col value)

  -- past its SID an entry changes nothing
  merged_rows_from-past : (base : List Row) (es : List Entry)
      → merged_rows_from (suc sid) base es ≡ merged_rows_from (suc sid) base (entries_past sid es)
  merged_rows_from-past base [] = refl
  merged_rows_from-past base (y ∷ es) = grind (arith, common_steps, merged_rows_from-past base es, same_of, merged_rows_from_past)

  -- the next row under modifies
  modified_first : (row : Row) (base : List Row) (es : List Entry) → T (list_all (modifies_at sid) es)
      → merged_rows_from sid (row ∷ base) es ≡ set_cells (cells_at sid es) row ∷ merged_rows_from (suc sid) base
      (entries_past sid es)
  modified_first row base es h =
      let none = modifies_insert es h in
      let left = modifies_leave row es h in
      (λ i. none i ++ (left i ++ merged_rows_from-past base es i))

-- entries within stand from there on
all_from-within : (n end : ℕ) (es : List Entry) → T (list_all (stands_within n end) es) → T (all_from n es)
all_from-within n end [] h = tt
all_from-within n end (e ∷ es) h =
    both (nat_le n e.sid) _ (first (nat_le n e.sid) _ (first (stands_within n end e) _ h))
    (all_from-within n end es (second (stands_within n end e) _ h))

-- the changes at a SID are those of the entries before the ones past it
changes_at-passed : (sid n : ℕ) (es : List Entry) → entries_past sid es ≡ drop n es → T (all_from (suc sid) (entries_past sid es))
    → changes_at sid es ≡ map (λ e. e.change) (take n es)
changes_at-passed sid zero [] is far = refl
changes_at-passed sid (suc n) [] is far = refl
changes_at-passed sid zero (e ∷ es) is far =
    changes_at_after sid (e ∷ es) (all_after-from sid (e ∷ es) (subst (λ xs. T (all_from (suc sid) xs)) is far))
changes_at-passed sid (suc n) (e ∷ es) is far = by (changes_at-passed sid n es) (e.sid == sid) refl
  where
    by : (entries_past sid es ≡ drop n es → T (all_from (suc sid) (entries_past sid es))
        → changes_at sid es ≡ map (λ e. e.change) (take n es)) → (b : Bool) → (e.sid == sid) ≡ b
        → changes_at sid (e ∷ es) ≡ e.change ∷ map (λ e. e.change) (take n es)
    by rest true same =
        let past : entries_past sid (e ∷ es) ≡ entries_past sid es = ap (λ b. cond b (entries_past sid es) (e ∷ es)) same in
        ap (λ b. map (λ (e : Entry). e.change) (cond b (e ∷ filter (λ e. e.sid == sid) es) (filter (λ e. e.sid == sid) es))) same
        ∙ ap (λ changes. e.change ∷ changes) (rest (sym past ∙ is) (subst (λ xs. T (all_from (suc sid) xs)) past far))
    by rest false other =
        let long = ap length (sym (ap (λ b. cond b (entries_past sid es) (e ∷ es)) other) ∙ is) in
        absurd (omega (arith, long, length-drop n es))

-- a delete or a modify is no insert
pub no_insert : (d : ChangeRef) → ((key : Bor Key) × (d ≡ lent.Del key)) ⊎ ((col : ℕ) × (value : ValueRef) × (d ≡ lent.Mod col value))
    → is_insert (change_of d) ≡ false
no_insert d (inl k) = ap (λ x. is_insert (change_of x)) k.1
no_insert d (inr k) = ap (λ x. is_insert (change_of x)) k.2

module _ (c : TreeCursor) where
  abbrev es : List Entry
  es = c.tree.entries

  abbrev kc : ℕ
  kc = c.tree.key_cols

  -- past the modifies of the next base row
  module _ (x : Entry) (next_is : ChangesNext x c) (kept : DeletesNone c) where
    abbrev rest : List Entry
    rest = drop (c.index + 1) es

    left : entries_left c ≡ x ∷ rest
    left = drop-at es c.index x next_is.next

    -- the entry is a modify
    is_one : (d : Change) → x.change ≡ d → T (is_modify d)
    is_one (Ins row) k = let inserts = ap is_insert k in let other = next_is.other in cc
    is_one (Del key) k =
        let no_one = sym (starts-same c.sid es c.index x next_is.next next_is.here) ∙ kept in let is_del = ap is_delete k in cc
    is_one (Mod col value) k = tt

    all_modify : (d : Change) → x.change ≡ d → T (is_modify d) → T (are_ordered kc (entries_left c))
        → T (list_all (modifies_at c.sid) (entries_left c))
    all_modify (Ins row) k t o = absurd t
    all_modify (Del key) k t o = absurd t
    all_modify (Mod col value) k t o =
        let o' : T (are_ordered kc (entry_at c.sid (Mod col value) ∷ rest)) = subst (λ xs. T (are_ordered kc xs)) (left
        ∙ (λ i. entry_at (next_is.here i) (k i) ∷ rest)) o in
        let head : T (modifies_at c.sid (entry_at c.sid (Mod col value))) = subst (λ b. T (not b || true)) (sym (same_itself c.sid)) tt in
        subst (λ xs. T (list_all (modifies_at c.sid) xs)) (sym (left ∙ (λ i. entry_at (next_is.here i) (k i) ∷ rest)))
        (both (modifies_at c.sid (entry_at c.sid (Mod col value))) _ head
        (modifies_follow kc c.sid col value rest
        (first (list_all (λ y. is_lt (entry_cmp kc (entry_at c.sid (Mod col value)) y)) rest) _ o')))

    some_row : (d : Change) → x.change ≡ d → T (is_modify d) → (count : ℕ) → IsCursor count c → 0 < count
    some_row (Ins row) k t count h = absurd t
    some_row (Del key) k t count h = absurd t
    some_row (Mod col value) k t count h = grind (arith, common_steps, left, lt_of, second, first)

    pub modifies_next : (new : TreeCursor) (place : ℕ) → drop place es ≡ entries_past c.sid (entries_left c)
        → (T (list_all (is_past (suc c.sid)) (take c.index es)) → T (list_all (is_past (suc c.sid)) (take place es)))
        → new ≡ record c { index = place; sid = c.sid + 1 } → ModifiesNext (cells_at c.sid es) c new
    modifies_next new place further past next =
        let step : c.sid + 1 ≡ suc c.sid = omega arith in
        let low : c.sid ≤ suc c.sid = omega arith in
        subst (λ y. ModifiesNext (cells_at c.sid es) c y) (sym next) (record {
          some = λ count h. some_row x.change refl (is_one x.change refl) count h;
          left = further;
          rows = λ row base h.
              modified_first c.sid row base (entries_left c) (all_modify x.change refl (is_one x.change refl) h.over.ordered)
              ∙ (λ i. set_cells (sym (cells_at-left c h.past) i) row ∷ merged_rows_from (sym step i) base (sym further i));
          cursor = λ count h.
              let stop : c.sid + suc count ≡ c.sid + 1 + count = omega arith in
              record {
                lawful = h.lawful;
                past =
                    subst (λ m. T (list_all (is_past m) (take place es))) (sym step)
                    (past (past-weaken c.sid (suc c.sid) (take c.index es) low h.past));
                few = omega (arith, h.few);
                over =
                    subst (λ m. IsOver kc m (c.sid + 1 + count) (drop place es)) (sym step)
                    (subst (λ e. IsOver kc (suc c.sid) e (drop place es)) stop
                    (subst (λ xs. IsOver kc (suc c.sid) (c.sid + suc count) xs) (sym further)
                    (over_past kc c.sid (c.sid + suc count) (entries_left c) h.over)));
              };
        })

-- ---- rows as they are

take-length-append : {X : Type 0} (xs ys : List X) → take (length xs) (xs ++ ys) ≡ xs
take-length-append [] ys = refl
take-length-append (x ∷ xs) ys = ap (λ zs. x ∷ zs) (take-length-append xs ys)

drop-length-append : {X : Type 0} (xs ys : List X) → drop (length xs) (xs ++ ys) ≡ ys
drop-length-append [] ys = refl
drop-length-append (x ∷ xs) ys = drop-length-append xs ys

module _ (c : TreeCursor) (n most : ℕ) (few : n ≤ most) (some : 0 < most
    → 0 < n) (far : T (all_from (c.sid + n) (entries_left c))) (within : (base : List Row) → IsCursor (length base) c
    → most ≤ length (rows_left c base) → n ≤ length base) where
  pub keeps_next : KeepsNext most n c
  keeps_next = record {
    few = few;
    some = some;
    within = within;
    rows = λ xs base short h.
        let k : ℕ = length xs in
        let near : c.sid + k ≤ c.sid + n = omega arith in
        let inside : k ≤ length (xs ++ base) = omega (arith, length-append xs base) in
        merged_rows_from-gap k c.sid (c.sid + k) (xs ++ base) (entries_left c) refl inside
        (all_from-weaken (c.sid + k) (c.sid + n) (entries_left c) near far)
        ∙ (λ i. take-length-append xs base i ++ merged_rows_from (c.sid + k) (drop-length-append xs base i) (entries_left c));
    cursor = λ k count short h.
        let near : c.sid + k ≤ c.sid + n = omega arith in
        let low : c.sid ≤ c.sid + k = omega arith in
        let stop : c.sid + (k + count) ≡ c.sid + k + count = omega arith in
        record {
          lawful = h.lawful;
          past = past-weaken c.sid (c.sid + k) (take c.index c.tree.entries) low h.past;
          few = omega (arith, h.few);
          over =
              over_from c.tree.key_cols c.sid (c.sid + k) (c.sid + (k + count)) (c.sid + k + count) (entries_left c) stop
              (all_from-weaken (c.sid + k) (c.sid + n) (entries_left c) near far) h.over;
        };
  }

module _ (c : TreeCursor) where
  -- the cells at the SID are those of the entries that are passed
  pub cells_at-passed : (n : ℕ) {count : ℕ} → IsCursor count c
      → drop (c.index + n) c.tree.entries ≡ entries_past c.sid (entries_left c)
      → cells_at c.sid c.tree.entries ≡ modified_cells (map (λ e. e.change) (take n (entries_left c)))
  cells_at-passed n {count} h passed =
      let far = all_from-within (suc c.sid) (c.sid + count) (entries_past c.sid (entries_left c))
      (over_past c.tree.key_cols c.sid (c.sid + count) (entries_left c) h.over).within in
      cells_at-left c h.past
      ∙ ap modified_cells (changes_at-passed c.sid n (entries_left c) (sym passed
      ∙ sym (drop-drop n c.index c.tree.entries)) far)

  -- with no entry left all rows stand
  pub keeps_all : (most : ℕ) → slice_get c.tree.entries c.index ≡ None → KeepsNext most most c
  keeps_all most is =
      let left : entries_left c ≡ [] = drop-none c.tree.entries c.index is in
      keeps_next c most most (omega arith) (λ h. h) (subst (λ xs. T (all_from (c.sid + most) xs)) (sym left) tt)
      (λ base h le. let same =
      ap length (ap (merged_rows_from c.sid base) left ∙ merged_rows_from_nothing c.sid base) in omega (arith, same, le))

  -- before the next entry they do
  pub keeps_some : (most : ℕ) (x : Entry) (count : ℕ) → IsCursor count c → slice_get c.tree.entries c.index ≡ Some x → c.sid < x.sid
      → KeepsNext most (min most (x.sid - c.sid)) c
  keeps_some most x count cursor is lt =
      let rest = drop (c.index + 1) c.tree.entries in
      let left : entries_left c ≡ x ∷ rest = drop-at c.tree.entries c.index x is in
      let n : ℕ = min most (x.sid - c.sid) in
      let near : c.sid + n ≤ x.sid = grind arith in
      keeps_next c n most (grind arith) (λ h. grind arith)
      (subst (λ xs. T (all_from (c.sid + n) xs)) (sym left)
      (all_from-ordered c.tree.key_cols (c.sid + n) x rest
      (subst (λ xs. T (are_ordered c.tree.key_cols xs)) left cursor.over.ordered) near))
      (λ base h le. let top =
      at_end base x.change refl
      (subst (λ xs. T (list_all (stands_within c.sid (c.sid + length base)) xs)) left h.over.within) in omega arith)
    where
      at_end : (base : List Row) (d : Change) → x.change ≡ d
          → T (list_all (stands_within c.sid (c.sid + length base)) (x ∷ drop (c.index + 1) c.tree.entries))
          → x.sid ≤ c.sid + length base
      at_end base d k h = by x.change (second (nat_le c.sid x.sid) _ (first (stands_within c.sid (c.sid + length base) x) _ h))
        where
          by : (d : Change) → T (cond (is_insert d) (nat_le x.sid (c.sid + length base)) (nat_lt x.sid (c.sid + length base)))
              → x.sid ≤ c.sid + length base
          by (Ins row) t = le_of x.sid (c.sid + length base) t
          by (Del key) t = let l = lt_of x.sid (c.sid + length base) t in omega arith
          by (Mod col value) t = let l = lt_of x.sid (c.sid + length base) t in omega arith
