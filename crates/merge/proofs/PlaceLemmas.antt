-- The cursor at the place of a position.
use Rattle.std.proofs.Common.{◌≡◌, ℕ, zero, suc, ◌+◌, ◌-◌, ◌<◌, ◌≤◌, ◌^◌, true, false, not, T, List, [], ◌∷◌, ◌++◌, length, take, drop, refl, sym, ap, ◌∙◌, subst, arith, length-drop, take-append-drop, rules}
use Rattle.std.specs.Prelude.{nat_le}
use Rattle.std.specs.List.{list_all}
use Rattle.std.proofs.lemmas.Bool.Decides.{nat_tests}
use Rattle.values.specs.declared.row.Row.{Row}
use Rattle.model.specs.declared.entry.Entry.{Entry}
use Rattle.model.specs.Entries.{are_ordered, IsLawful}
use Rattle.model.specs.Merging.{merged_rows_from, merged_rows}
use Rattle.model.specs.Places.{insert_count, delete_count}
use Rattle.model.proofs.CallerLemmas.{both, first, second}
use Rattle.delta.specs.Search.{base_cmp, first_cmp, stands_before}
use Rattle.delta.specs.Walks.{IsWalk}
use Rattle.delta.proofs.CallerLemmas.{ordered_right}
use Rattle.merge.specs.Level.{stands_within, IsOver}
use Rattle.merge.specs.Cursor.{TreeCursor, is_past, IsCursorAt}
use Rattle.merge.proofs.LevelLemmas.{le_of, all_from}
use Rattle.merge.proofs.ReachLemmas.{is_passed, IsReached, reached, length-merged_rows}
use Rattle.merge.proofs.CursorLemmas.{over_from}
use Rattle.std.proofs.lemmas.Grind.{common_steps}

-- what stands within the rows, from a place on
within_drop : (n end k : ℕ) (es : List Entry) → T (list_all (stands_within n end) es) → T (list_all (stands_within n end) (drop k es))
within_drop n end zero es h = h
within_drop n end (suc k) [] h = tt
within_drop n end (suc k) (e ∷ es) h = within_drop n end k es (second (stands_within n end e) _ h)

ordered_drop : (key_cols k : ℕ) (es : List Entry) → T (are_ordered key_cols es) → T (are_ordered key_cols (drop k es))
ordered_drop key_cols k es h =
    ordered_right key_cols (take k es) (drop k es) (subst (λ xs. T (are_ordered key_cols xs)) (sym (take-append-drop k es)) h)

-- what comes before the base row at a SID is past there
passed_past : (s : ℕ) (es : List Entry) → T (list_all (is_passed 0 s) es) → T (list_all (is_past s) es)
passed_past s [] h = tt
passed_past s (e ∷ es) h = grind (arith, common_steps, passed_past s es (second (is_passed 0 s e) _ h), both, second, first, is_passed)

drop_passed : {X : Type 0} (xs ys : List X) (n : ℕ) → length xs ≡ n → drop n (xs ++ ys) ≡ ys
drop_passed [] ys zero is = refl
drop_passed [] ys (suc n) is = absurd (omega arith)
drop_passed (x ∷ xs) ys zero is = absurd (omega arith)
drop_passed (x ∷ xs) ys (suc n) is = let shorter : length xs ≡ n = omega arith in drop_passed xs ys n shorter

-- the cursor past entries that come before the base row at its SID, where no other does
module _ (base : List Row) (c : TreeCursor) (over : IsOver c.tree.key_cols 0 (length base) c.tree.entries)
    (lawful : IsLawful c.tree.key_cols c.tree.entries) (small : length base < 2 ^ 62) (within : c.sid ≤ length base)
    (passed : T (list_all (is_passed 0 c.sid) (take c.index c.tree.entries)))
    (far : T (all_from c.sid (drop c.index c.tree.entries))) where
  abbrev es : List Entry
  es = c.tree.entries

  abbrev kc : ℕ
  kc = c.tree.key_cols

  whole : take c.index es ++ drop c.index es ≡ es
  whole = take-append-drop c.index es

  reach : IsReached 0 c.sid c.sid base (take c.index es) (drop c.index es)
  reach = grind (arith, common_steps, reached, within, whole, passed, far)

  -- at the position that they give
  pub cursor_at : (rid : ℕ) → rid + delete_count (take c.index es) ≡ c.sid + insert_count (take c.index es) → IsCursorAt base rid c
  cursor_at rid at =
      let r = reach in
      let count : length r.passed ≡ rid = omega (arith, r.count, at) in
      let stop : length base ≡ c.sid + length (drop c.sid base) = omega (arith, length-drop c.sid base, within) in
      record {
        within = within;
        rows =
            sym (ap (drop rid) (ap (merged_rows base) (sym whole) ∙ r.image)
            ∙ drop_passed r.passed (merged_rows_from c.sid (drop c.sid base) (drop c.index es)) rid count);
        cursor = record {
          lawful = lawful;
          past = passed_past c.sid (take c.index es) passed;
          few = omega (arith, stop, small);
          over =
              over_from kc 0 c.sid (length base) (c.sid + length (drop c.sid base)) (drop c.index es) stop far
              (record
              { ordered = ordered_drop kc c.index es over.ordered; within = within_drop 0 (length base) c.index es over.within });
        };
      }

  -- so many rows come before
  pub passed_count : delete_count (take c.index es) ≤ c.sid + insert_count (take c.index es)
  passed_count = let r = reach in omega (arith, r.count)

-- ---- where a walk begins

module _ (s : ℕ) where
  -- the test of what comes before the base row
  stands_passed : (es : List Entry) → T (list_all (stands_before base_cmp s) es) → T (list_all (is_passed 0 s) es)
  stands_passed [] h = tt
  stands_passed (e ∷ es) h = grind (arith, common_steps)

  -- and of what is at its SID or past it
  stands_far : (es : List Entry) → T (list_all (λ e. not (stands_before first_cmp s e)) es) → T (all_from s es)
  stands_far [] h = tt
  stands_far (e ∷ es) h = search rules

-- no entry stands past the end of the rows
none_far : (end s : ℕ) (es : List Entry) → end < s → T (list_all (stands_within 0 end) es) → T (all_from s es) → es ≡ []
none_far end s [] lt w h = refl
none_far end s (e ∷ es) lt w h = search rules

-- the cursor where a walk begins stands at the position
module _ (base : List Row) (c : TreeCursor) (rid : ℕ) (over : IsOver c.tree.key_cols 0 (length base) c.tree.entries)
    (lawful : IsLawful c.tree.key_cols c.tree.entries) (small : length base < 2 ^ 62)
    (low : rid ≤ length (merged_rows base c.tree.entries)) (walk : IsWalk c.tree.entries rid c.sid c.index) where
  abbrev all : List Entry
  all = c.tree.entries

  passed : T (list_all (is_passed 0 c.sid) (take c.index all))
  passed = stands_passed c.sid (take c.index all) walk.before

  far : T (all_from c.sid (drop c.index all))
  far = stands_far c.sid (drop c.index all) walk.after

  -- its SID is within the rows, since all that the entries add and take away comes before it otherwise
  inside : (w : ℕ) → c.sid ≡ suc (length base) + w → ⊥
  inside w is =
      let past : length base < c.sid = omega arith in
      let none = none_far (length base) c.sid (drop c.index all) past (within_drop 0 (length base) c.index all over.within) far in
      let same : take c.index all ≡ all =
      sym (append_none (take c.index all)) ∙ ap (λ ys. take c.index all ++ ys) (sym none) ∙ take-append-drop c.index all in
      omega (arith, low, walk.position, ap insert_count same, ap delete_count same, length-merged_rows c.tree.key_cols base all over)
    where
      append_none : (xs : List Entry) → xs ++ [] ≡ xs
      append_none [] = refl
      append_none (x ∷ xs) = ap (λ ys. x ∷ ys) (append_none xs)

  within : c.sid ≤ length base
  within = elim (nat_le c.sid (length base)) as (λ b. nat_le c.sid (length base) ≡ b → c.sid ≤ length base) [
    | true ↦ λ e. le_of c.sid (length base) (subst T (sym e) tt)
    | false ↦ λ e. absurd (inside (c.sid - suc (length base)) (apart c.sid (length base) e))
  ] refl
    where
      apart : (a b : ℕ) → nat_le a b ≡ false → a ≡ suc b + (a - suc b)
      apart a b e = grind (arith, nat_tests)

  pub walk_found : IsCursorAt base rid c
  walk_found =
      let few = passed_count base c over lawful small within passed far in
      cursor_at base c over lawful small within passed far rid (omega (arith, few, walk.position))
