-- The rows of ordered entries stand at their positions in the image.
use Rattle.std.proofs.Common.{◌≡◌, ◌⊎◌, ℕ, ◌+◌, ◌-◌, ◌<◌, ◌≤◌, Bool, true, false, cond, T, Some, List, [], ◌∷◌, ◌++◌, map, length, filter, Ordering, is_lt, nat_cmp, refl, ◌∙◌, arith, rules}
use Rattle.std.specs.Prelude.{◌==◌, nat_lt, slice_get}
use Rattle.std.specs.Bool.{passes}
use Rattle.std.specs.Ordering.{ordering_then}
use Rattle.std.specs.List.{list_all}
use Rattle.std.proofs.lemmas.Bool.Decides.{nat_tests}
use Rattle.std.proofs.lemmas.Option.{slice_get_within}
use Rattle.values.specs.declared.row.Row.{Row}
use Rattle.values.specs.declared.row.Key.{Key}
use Rattle.model.specs.declared.entry.Entry.{Entry}
use Rattle.model.specs.declared.entry.Change.{Change}
use Rattle.model.specs.declared.entry.Change.TheVariants.{Ins, Del, Mod}
use Rattle.model.specs.Entries.{entry_at, change_cmp, entry_cmp, are_ordered}
use Rattle.model.specs.Merging.{changes_at, inserted_rows, merged_rows}
use Rattle.model.specs.Places.{deleted_keys, insert_count, delete_count}
use Rattle.model.specs.Laws.{InsertStandsAtRid, BaseStandsAtRid}
use Rattle.model.proofs.MapsLemmas.{first, second}
use Rattle.model.proofs.PlacesLemmas.{counted, ins_worth, del_worth, one_more, one_gone, left_length, row_left, merged_rows-base, merged_rows-insert}
use Rattle.std.proofs.lemmas.Grind.{common_steps}

-- ---- what the order says of two places

-- what the test of an equation tells
same_of : (a b : ℕ) → (a == b) ≡ true → a ≡ b
same_of a b h = grind (arith, nat_tests)

-- what stands first is at a smaller place, or first at the same one
pub first_place : (a b : ℕ) (o : Ordering) → T (is_lt (ordering_then (nat_cmp a b) o)) → (a < b) ⊎ ((a ≡ b) × T (is_lt o))
first_place a b o h = search rules

-- ---- numbers at places

-- no place is below itself
below_itself : (n w : ℕ) → cond (nat_lt n n) w 0 ≡ 0
below_itself n w = grind (arith, nat_tests)

-- nothing counts at a place that isn't below
not_below : (a n w : ℕ) → n ≤ a → cond (nat_lt a n) w 0 ≡ 0
not_below a n w h = grind (arith, nat_tests)

-- a place below counts
is_below : (a n w : ℕ) → a < n → cond (nat_lt a n) w 0 ≡ w
is_below a n w h = grind (arith, nat_tests)

-- a smaller place is another one
other_place : (a n : ℕ) → a < n → (a == n) ≡ false
other_place a n h = grind (arith, nat_tests)

-- an equal place is the same one
same_place : (a n : ℕ) → a ≡ n → (a == n) ≡ true
same_place a n h = grind (arith, nat_tests)

module _ (key_cols : ℕ) where
  -- whether an entry stands before another one
  abbrev stands_before : Entry → Entry → Bool
  stands_before x y = is_lt (entry_cmp key_cols x y)

  -- ---- one delete at a place

  -- no change stands after a delete at its place
  none_first : (key : Key) (c : Change) → T (is_lt (change_cmp key_cols (Del key) c)) → ⊥
  none_first key (Ins row) h = h
  none_first key (Del other) h = h
  none_first key (Mod col value) h = h

  -- entries in order after a delete have none at its place
  after_delete : (m sid : ℕ) (key : Key) (es : List Entry) → sid ≡ m → T (list_all (stands_before (entry_at sid (Del key))) es)
      → length (deleted_keys (changes_at m es)) ≡ 0
  after_delete m sid key [] is h = refl
  after_delete m sid key (e ∷ es) is h = grind (arith, common_steps, after_delete m sid key es is (second (stands_before (entry_at sid (Del key)) e) _ h), second, first_place, first, same_of, none_first)

  -- entries in order have at most one delete at a place
  pub single_delete : (es : List Entry) → T (are_ordered key_cols es) → (m : ℕ) → length (deleted_keys (changes_at m es)) ≤ 1
  single_delete [] h m = omega arith
  single_delete (e ∷ es) h m =
      let rest = single_delete es (second (list_all (stands_before e) es) _ h) m in
      elim (e.sid == m) as (λ b. (e.sid == m) ≡ b → length
      (deleted_keys (map (λ e. e.change) (cond b (e ∷ filter (λ e. e.sid == m) es) (filter (λ e. e.sid == m) es))))
      ≤ 1) [
        | true ↦ λ same. with_head e.sid e.change (same_of e.sid m same) (first (list_all (stands_before e) es) _ h) rest
        | false ↦ λ same. rest
      ] refl
    where
      -- by the change at the head
      with_head : (sid : ℕ) (c : Change) → sid ≡ m → T (list_all (stands_before (entry_at sid c)) es)
          → length (deleted_keys (changes_at m es)) ≤ 1 → length (deleted_keys (c ∷ changes_at m es)) ≤ 1
      with_head sid (Ins row) is g r = r
      with_head sid (Del key) is g r = let none = after_delete m sid key es is g in omega arith
      with_head sid (Mod col value) is g r = r

  -- ---- the entries round an insert

  module _ (sid : ℕ) (row : Row) where
    -- no entry after it is below its place
    counted_after : (worth : Change → ℕ) (es : List Entry) → T (list_all (stands_before (entry_at sid (Ins row))) es)
        → counted worth (λ e. nat_lt e.sid sid) es ≡ 0
    counted_after worth [] h = refl
    counted_after worth (e ∷ es) h = grind (arith, common_steps, counted_after worth es (second (stands_before (entry_at sid (Ins row)) e) _ h), not_below, first_place, first, second)

    module _ (after : List Entry) where
      -- the entries with the insert among them
      abbrev all_with : List Entry → List Entry
      all_with before = before ++ entry_at sid (Ins row) ∷ after

      -- where an entry before the insert stands
      split : (e : Entry) (before : List Entry) → T (are_ordered key_cols (all_with (e ∷ before)))
          → (e.sid < sid) ⊎ ((e.sid ≡ sid) × (del_worth e.change ≡ 0))
      split e before h = grind (arith, common_steps)

      -- the deletes below the place of the insert are those before it
      deletes_before : (before : List Entry) → T (are_ordered key_cols (all_with before))
          → delete_count before ≡ counted del_worth (λ e. nat_lt e.sid sid) (all_with before)
      deletes_before [] h = grind (arith, common_steps, below_itself, counted_after, del_worth, first)
      deletes_before (e ∷ before) h = grind (arith, common_steps, deletes_before before (second (list_all (stands_before e) (all_with before)) _ h), second, one_gone, split, del_worth, counted, is_below, not_below)

      -- the inserts before it are those below its place, and those before it there
      inserts_before : (before : List Entry) → T (are_ordered key_cols (all_with before))
          → insert_count before
          ≡ counted ins_worth (λ e. nat_lt e.sid sid) (all_with before) + length (inserted_rows (changes_at sid before))
      inserts_before [] h = grind (arith, common_steps, below_itself, counted_after, ins_worth, first)
      inserts_before (e ∷ before) h = grind (arith, common_steps, inserts_before before (second (list_all (stands_before e) (all_with before)) _ h), second, one_more, split, del_worth, counted, ins_worth, other_place, is_below, same_place, not_below)

      -- its row follows those that are inserted before it at its place
      row_there : (before : List Entry)
          → slice_get (inserted_rows (changes_at sid (all_with before))) (length (inserted_rows (changes_at sid before)))
          ≡ Some row
      row_there [] = grind (arith, common_steps, same_place)
      row_there (e ∷ before) = grind (arith, common_steps, row_there before)

  -- the row of an insert stands at its position in the image
  pub merged_rows-rid_of_insert : InsertStandsAtRid key_cols
  merged_rows-rid_of_insert base before after sid row is_ordered le =
      let es = before ++ entry_at sid (Ins row) ∷ after in
      let ordered = passes (are_ordered key_cols es) is_ordered in
      let j = length (inserted_rows (changes_at sid before)) in
      let there = row_there sid row after before in
      let inserts = inserts_before sid row after before ordered in
      let deletes = deletes_before sid row after before ordered in
      (λ i. slice_get (merged_rows base es) ((sid + inserts i) - deletes i))
      ∙ merged_rows-insert es (single_delete es ordered) base sid j le (slice_get_within (inserted_rows (changes_at sid es)) j row there)
      ∙ there

  -- and a base row that isn't deleted, as its modifies leave it
  pub merged_rows-rid_of_base : BaseStandsAtRid key_cols
  merged_rows-rid_of_base base entries sid row now is_ordered row_is left = grind (arith, common_steps, single_delete, left_length, merged_rows-base, slice_get_within, row_left)
