-- What is left of the image of one layer, step by step.
use Rattle.std.proofs.Common.{◌≡◌, ℕ, zero, suc, ◌+◌, ◌≤◌, Bool, T, List, [], ◌∷◌, ◌++◌, length, take, drop, is_lt, ap, ◌∙◌, arith, rules}
use Rattle.std.specs.Prelude.{nat_le, slice_set}
use Rattle.std.specs.List.{list_all}
use Rattle.std.proofs.lemmas.Bool.Decides.{nat_tests}
use Rattle.values.specs.declared.row.Row.{Row}
use Rattle.values.specs.declared.row.Key.{Key}
use Rattle.values.specs.declared.value.Value.{Value}
use Rattle.model.specs.declared.entry.Entry.{Entry}
use Rattle.model.specs.declared.entry.Change.TheVariants.{Del, Mod}
use Rattle.model.specs.Entries.{entry_at, entry_cmp, are_ordered}
use Rattle.model.specs.Merging.{merged_rows_from}
use Rattle.model.proofs.CallerLemmas.{both, first, second, changes_at_here, all_after, merged_rows_from_past, merged_rows_from_none, first_place}
use Rattle.std.proofs.lemmas.Grind.{common_steps}

-- ---- tests of places

pub le_of : (n m : ℕ) → T (nat_le n m) → n ≤ m
le_of n m h = grind (arith, nat_tests)

pub of_le : (n m : ℕ) → n ≤ m → T (nat_le n m)
of_le n m h = grind (arith, nat_tests)

-- each entry stands at place n or past it
abbrev pub all_from : ℕ → List Entry → Bool
all_from n es = list_all (λ e. nat_le n e.sid) es

pub all_from-weaken : (n m : ℕ) (es : List Entry) → n ≤ m → T (all_from m es) → T (all_from n es)
all_from-weaken n m [] le h = tt
all_from-weaken n m (e ∷ es) le h =
    grind (arith, common_steps, all_from-weaken n m es le (second (nat_le m e.sid) _ h), le_of, first, both, of_le, second)

pub all_after-from : (n : ℕ) (es : List Entry) → T (all_from (suc n) es) → T (all_after n es)
all_after-from n [] h = tt
all_after-from n (e ∷ es) h = search rules

pub all_from-after : (n : ℕ) (es : List Entry) → T (all_after n es) → T (all_from (suc n) es)
all_from-after n [] h = tt
all_from-after n (e ∷ es) h = search rules

-- ---- the order

module _ (key_cols : ℕ) where
  -- the entries past one in order are at its place or past it
  pub from_head : (x : Entry) (es : List Entry) → T (list_all (λ y. is_lt (entry_cmp key_cols x y)) es) → T (all_from x.sid es)
  from_head x [] h = tt
  from_head x (y ∷ es) h = grind (arith, common_steps, from_head x es (second (is_lt (entry_cmp key_cols x y)) _ h), both, of_le, first_place, first, second)

  pub after_delete : (n : ℕ) (key : Key) (es : List Entry)
      → T (list_all (λ y. is_lt (entry_cmp key_cols (entry_at n (Del key)) y)) es) → T (all_after n es)
  after_delete n key [] h = tt
  after_delete n key (y ∷ es) h = search rules

  -- all of entries in order are at the place of the first or past it
  pub all_from-ordered : (n : ℕ) (e : Entry) (es : List Entry) → T (are_ordered key_cols (e ∷ es)) → n ≤ e.sid → T (all_from n (e ∷ es))
  all_from-ordered n e es h le = grind (arith, common_steps, both, of_le, all_from-weaken, from_head, first)

-- ---- a stretch without entries

-- the rows before the first entry stand as they are
pub merged_rows_from-gap : (k n m : ℕ) (base : List Row) (es : List Entry) → m ≡ n + k → k ≤ length base → T (all_from m es)
    → merged_rows_from n base es ≡ take k base ++ merged_rows_from m (drop k base) es
merged_rows_from-gap zero n m base es is le h = let e : n ≡ m = omega arith in ap (λ p. merged_rows_from p base es) e
merged_rows_from-gap (suc k) n m [] es is le h = absurd (omega arith)
merged_rows_from-gap (suc k) n m (row ∷ base) es is le h =
    let next : m ≡ suc n + k = omega arith in
    let near : suc n ≤ m = omega arith in
    let shorter : k ≤ length base = omega arith in
    merged_rows_from_none n row base es (all_after-from n es (all_from-weaken (suc n) m es near h))
    ∙ ap (λ rows. row ∷ rows) (merged_rows_from-gap k (suc n) m base es next shorter h)

-- a modify at the first place changes its row
pub merged_rows_from-cell : (n col : ℕ) (value : Value) (row : Row) (base : List Row) (es : List Entry)
    → merged_rows_from n (row ∷ base) (entry_at n (Mod col value) ∷ es) ≡ merged_rows_from n (slice_set row col value ∷ base) es
merged_rows_from-cell n col value row base es = grind (arith, common_steps, changes_at_here, merged_rows_from_past)
