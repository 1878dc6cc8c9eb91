-- What is left of the image of a layer past some of its entries.
use Rattle.std.proofs.Common.{◌≡◌, ℕ, zero, suc, ◌+◌, ◌-◌, ◌<◌, ◌≤◌, Bool, cond, ◌&&◌, T, List, [], ◌∷◌, ◌++◌, length, take, drop, refl, sym, ap, ◌∙◌, subst, arith, append_assoc, length-append, length-take, length-drop}
use Rattle.std.specs.Prelude.{nat_lt, nat_le, slice_set}
use Rattle.std.specs.List.{list_all}
use Rattle.std.proofs.lemmas.List.{drop_all, drop-drop}
use Rattle.std.proofs.lemmas.Bool.Decides.{nat_tests}
use Rattle.values.specs.declared.row.Row.{Row}
use Rattle.values.specs.declared.row.Key.{Key}
use Rattle.values.specs.declared.value.Value.{Value}
use Rattle.model.specs.declared.entry.Entry.{Entry}
use Rattle.model.specs.declared.entry.Change.TheVariants.{Ins, Del, Mod}
use Rattle.model.specs.Entries.{entry_at, is_insert, entry_cmp, are_ordered}
use Rattle.std.specs.Ordering.{is_lt}
use Rattle.model.specs.Merging.{merged_rows_from, merged_rows}
use Rattle.model.specs.Places.{insert_count, delete_count}
use Rattle.model.proofs.CallerLemmas.{both, first, second, all_after, merged_rows_from_insert, merged_rows_from_delete}
use Rattle.merge.specs.Level.{stands_within, IsOver}
use Rattle.merge.proofs.LevelLemmas.{le_of, all_from, all_from-ordered, all_from-after, after_delete, merged_rows_from-gap, merged_rows_from-cell}
use Rattle.std.proofs.lemmas.Grind.{common_steps}

-- an entry at place n or past it, that comes before what becomes of the base row at place s
abbrev pub is_passed : ℕ → ℕ → Entry → Bool
is_passed n s e = nat_le n e.sid && cond (is_insert e.change) (nat_le e.sid s) (nat_lt e.sid s)

-- what is left past some entries, at place s of the base
pub record IsReached (n k s : ℕ) (base : List Row) (before after : List Entry) : Type 0 where
  pub passed : List Row
  pub image : merged_rows_from n base (before ++ after) ≡ passed ++ merged_rows_from s (drop k base) after
  pub count : length passed + delete_count before ≡ k + insert_count before

lt_here : (n m : ℕ) → T (nat_lt n m) → n < m
lt_here n m h = grind (arith, nat_tests)

-- one beginning dropped after the other
pub drop_twice : {X : Type 0} (j k l : ℕ) (xs : List X) → l ≡ j + k → drop k (drop j xs) ≡ drop l xs
drop_twice j k l xs is = drop-drop k j xs ∙ ap (λ m. drop m xs) (sym is)

module _ (key_cols : ℕ) where
  -- a stretch without entries comes before
  past_gap : (j n m k s : ℕ) (base : List Row) (x : Entry) (before after : List Entry) → m ≡ n + j → j ≤ k → k ≤ length base
      → T (all_from m (x ∷ before ++ after)) → IsReached m (k - j) s (drop j base) (x ∷ before) after
      → IsReached n k s base (x ∷ before) after
  past_gap j n m k s base x before after is le short far h =
      let split : k ≡ j + (k - j) = omega arith in
      let low : j ≤ length base = omega arith in
      record {
        passed = take j base ++ h.passed;
        image =
            merged_rows_from-gap j n m base (x ∷ before ++ after) is low far
            ∙ ap (λ rows. take j base ++ rows) h.image
            ∙ sym (append_assoc (take j base) h.passed (merged_rows_from s (drop (k - j) (drop j base)) after))
            ∙ ap (λ (rest : List Row). (take j base ++ h.passed) ++ merged_rows_from s rest after) (drop_twice j (k - j) k base split);
        count = omega (arith, h.count, length-append (take j base) h.passed, length-take j base, split, low);
      }

  -- past an entry at the first place
  past_insert : (m k s : ℕ) (row : Row) (base : List Row) (before after : List Entry) → IsReached m k s base before after
      → IsReached m k s base (entry_at m (Ins row) ∷ before) after
  past_insert m k s row base before after h = record {
    passed = row ∷ h.passed;
    image = merged_rows_from_insert m row base (before ++ after) ∙ ap (λ rows. row ∷ rows) h.image;
    count = omega (arith, h.count);
  }

  past_delete : (m k s : ℕ) (key : Key) (row : Row) (base : List Row) (before after : List Entry)
      → T (all_after m (before ++ after)) → IsReached (suc m) k s base before after
      → IsReached m (suc k) s (row ∷ base) (entry_at m (Del key) ∷ before) after
  past_delete m k s key row base before after far h = grind (arith, common_steps, merged_rows_from_delete)

  past_modify : (m k s col : ℕ) (value : Value) (row : Row) (base : List Row) (before after : List Entry)
      → IsReached m (suc k) s (slice_set row col value ∷ base) before after
      → IsReached m (suc k) s (row ∷ base) (entry_at m (Mod col value) ∷ before) after
  past_modify m k s col value row base before after h = grind (arith, common_steps, merged_rows_from-cell)

  -- past a delete, and past a modify, of some row of the base
  past_some_delete : (m k s : ℕ) (key : Key) (base : List Row) (before after : List Entry) → s ≡ m + k → 0 < k → k ≤ length base
      → T (all_after m (before ++ after))
      → ((k' : ℕ) (base' : List Row) → s ≡ suc m + k' → k' ≤ length base' → IsReached (suc m) k' s base' before after)
      → IsReached m k s base (entry_at m (Del key) ∷ before) after
  past_some_delete m zero s key base before after is some short far rest = absurd (omega arith)
  past_some_delete m (suc k) s key [] before after is some short far rest = absurd (omega arith)
  past_some_delete m (suc k) s key (row ∷ base) before after is some short far rest = grind (arith, common_steps, past_delete)

  past_some_modify : (m k s col : ℕ) (value : Value) (base : List Row) (before after : List Entry) → 0 < k → k ≤ length base
      → ((base' : List Row) → k ≤ length base' → IsReached m k s base' before after)
      → IsReached m k s base (entry_at m (Mod col value) ∷ before) after
  past_some_modify m zero s col value base before after some short rest = absurd (omega arith)
  past_some_modify m (suc k) s col value [] before after some short rest = absurd (omega arith)
  past_some_modify m (suc k) s col value (row ∷ base) before after some short rest =
      past_modify m k s col value row base before after (rest (slice_set row col value ∷ base) short)

  -- entries that come before place s do so from any place that they don't stand before
  passed_from : (n m s : ℕ) (es fs : List Entry) → T (all_from m (es ++ fs)) → T (list_all (is_passed n s) es)
      → T (list_all (is_passed m s) es)
  passed_from n m s [] fs h p = tt
  passed_from n m s (e ∷ es) fs h p = grind (arith, common_steps, passed_from n m s es fs (second (nat_le m e.sid) _ h) (second (is_passed n s e) _ p), both, first, second)

  -- the entries past one in order
  abbrev follow : Entry → List Entry → Bool
  follow x es = list_all (λ y. is_lt (entry_cmp key_cols x y)) es

  -- the image past entries that come before the base row at place s, which is that number k from place n on
  pub reached : (before after : List Entry) (n k s : ℕ) (base : List Row) → s ≡ n + k → k ≤ length base
      → T (are_ordered key_cols (before ++ after)) → T (list_all (is_passed n s) before) → T (all_from s after)
      → IsReached n k s base before after
  reached [] after n k s base is short ordered bef far = record {
    passed = take k base;
    image = merged_rows_from-gap k n s base after is short far;
    count = omega (arith, length-take k base, short);
  }
  reached (x ∷ before) after n k s base is short ordered bef far =
      let m : ℕ = x.sid in
      let low : n ≤ m = le_of n m (first (nat_le n m) _ (first (is_passed n s x) _ bef)) in
      let j : ℕ = m - n in
      let at_m : m ≡ n + j = omega arith in
      let own : m ≤ m = omega arith in
      let bef' = second (is_passed n s x) (list_all (is_passed n s) before) bef in
      let ordered' = second (follow x (before ++ after)) (are_ordered key_cols (before ++ after)) ordered in
      let all : T (all_from m (x ∷ before ++ after)) = all_from-ordered key_cols m x (before ++ after) ordered own in
      let later : T (all_from m (before ++ after)) = second (nat_le m m) _ all in
      elim x.change as (λ c. T (follow (entry_at m c) (before ++ after)) → T (is_passed n s (entry_at m c))
      → IsReached n k s base (entry_at m c ∷ before) after) [
        | Ins row ↦ λ o b.
            let high : m ≤ s = le_of m s (second (nat_le n m) (nat_le m s) b) in
            let inside : j ≤ k = omega arith in
            let next : s ≡ m + (k - j) = omega arith in
            let shorter : k - j ≤ length (drop j base) = omega (arith, length-drop j base, short) in
            past_gap j n m k s base (entry_at m (Ins row)) before after at_m inside short all
            (past_insert m (k - j) s row (drop j base) before after
            (reached before after m (k - j) s (drop j base) next shorter ordered' (passed_from n m s before after later bef') far))
        | Del key ↦ λ o b.
            let high : m < s = lt_here m s (second (nat_le n m) (nat_lt m s) b) in
            let inside : j ≤ k = omega arith in
            let some : 0 < k - j = omega arith in
            let next : s ≡ m + (k - j) = omega arith in
            let shorter : k - j ≤ length (drop j base) = omega (arith, length-drop j base, short) in
            let past = after_delete key_cols m key (before ++ after) o in
            past_gap j n m k s base (entry_at m (Del key)) before after at_m inside short all
            (past_some_delete m (k - j) s key (drop j base) before after next some shorter past
            (λ k' base' e l. reached before after (suc m) k' s base' e l ordered'
            (passed_from n (suc m) s before after (all_from-after m (before ++ after) past) bef') far))
        | Mod col value ↦ λ o b.
            let high : m < s = lt_here m s (second (nat_le n m) (nat_lt m s) b) in
            let inside : j ≤ k = omega arith in
            let some : 0 < k - j = omega arith in
            let next : s ≡ m + (k - j) = omega arith in
            let shorter : k - j ≤ length (drop j base) = omega (arith, length-drop j base, short) in
            past_gap j n m k s base (entry_at m (Mod col value)) before after at_m inside short all
            (past_some_modify m (k - j) s col value (drop j base) before after some shorter
            (λ base' l. reached before after m (k - j) s base' next l ordered' (passed_from n m s before after later bef') far))
      ] (first (follow x (before ++ after)) _ ordered) (first (is_passed n s x) _ bef)

-- ---- from the first place

append_nothing : {X : Type 0} (xs : List X) → xs ++ [] ≡ xs
append_nothing [] = refl
append_nothing (x ∷ xs) = ap (λ ys. x ∷ ys) (append_nothing xs)

within_passed : (n end : ℕ) (es : List Entry) → T (list_all (stands_within n end) es) → T (list_all (is_passed n end) es)
within_passed n end [] h = tt
within_passed n end (e ∷ es) h =
    both (is_passed n end e) _ (first (stands_within n end e) _ h) (within_passed n end es (second (stands_within n end e) _ h))

-- the length of the image
pub length-merged_rows : (key_cols : ℕ) (base : List Row) (es : List Entry) → IsOver key_cols 0 (length base) es
    → length (merged_rows base es) + delete_count es ≡ length base + insert_count es
length-merged_rows key_cols base es h =
    let whole : length base ≡ 0 + length base = omega arith in
    let full : length base ≤ length base = omega arith in
    let all = append_nothing es in
    let r =
    reached key_cols es [] 0 (length base) (length base) base whole full
    (subst (λ fs. T (are_ordered key_cols fs)) (sym all) h.ordered) (within_passed 0 (length base) es h.within) tt in
    let image =
    ap (merged_rows base) (sym all)
    ∙ r.image
    ∙ ap (λ rest. r.passed ++ merged_rows_from (length base) rest []) (drop_all (length base) base full) in
    omega (arith, ap length image, length-append r.passed [], r.count)
