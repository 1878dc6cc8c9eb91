-- The place of a key among canonical entries, and its position in the image.
use Rattle.std.proofs.Common.{◌≡◌, ℕ, ◌+◌, ◌<◌, ◌≤◌, Bool, true, false, not, T, List, [], ◌∷◌, ◌++◌, map, filter, take, drop, Ordering, Less, Equal, Greater, is_lt, is_gt, nat_cmp, refl, sym, ap, ◌∙◌, arith, take-append-drop, rules}
use Rattle.std.specs.Bool.{passes}
use Rattle.std.specs.Ordering.{ordering_then, eq_by_cmp}
use Rattle.std.specs.List.{list_all}
use Rattle.values.specs.Orders.{key_cmp, key_cmp_total, key_cmp-IsAntisymmetric}
use Rattle.values.specs.Shape.{Columns, key_of}
use Rattle.values.specs.declared.row.Row.{Row}
use Rattle.values.specs.declared.row.Key.{Key}
use Rattle.model.specs.declared.entry.Entry.{Entry}
use Rattle.model.specs.declared.entry.Change.TheVariants.{Ins, Mod}
use Rattle.model.specs.declared.effect.Effect.{Effect}
use Rattle.model.specs.declared.effect.Effect.TheVariants as effect
use Rattle.model.specs.Maps.{is_sorted}
use Rattle.model.specs.Table.{Table, row_at, rank, is_keyed_table}
use Rattle.model.specs.Effects.{Cells, Effects, AreOver, fits, all_fit, is_keyed_effect, are_keyed_effects, table_with}
use Rattle.model.specs.Entries.{entry_at, entries_of, canonical_entries}
use Rattle.model.specs.Places.{insert_count, delete_count, rid_of_insert}
use Rattle.model.proofs.CallerLemmas.{both, first, second, turn_less, turn_greater, is_below, inserts_of, deletes_of, sum_below, rank-table_with, rank-le, rank-lt, canonical_entries-at_key}
use Rattle.delta.specs.Search.{insert_cmp, stands_before, IsSplit}
use Rattle.delta.proofs.CountLemmas.{insert_count-append, delete_count-append}
use Rattle.delta.proofs.ChangesLemmas.{filter_all, filter_none}
use Rattle.std.proofs.lemmas.List.Elements.{filter-append}
use Rattle.std.proofs.lemmas.Grind.{common_steps}

-- ---- how many inserts and deletes effects are

inserts_of_cells : (n : ℕ) (cells : Cells) → insert_count (map (λ c. entry_at n (Mod c.0 c.1)) cells) ≡ 0
inserts_of_cells n [] = refl
inserts_of_cells n (c ∷ cells) = inserts_of_cells n cells

deletes_of_cells : (n : ℕ) (cells : Cells) → delete_count (map (λ c. entry_at n (Mod c.0 c.1)) cells) ≡ 0
deletes_of_cells n [] = refl
deletes_of_cells n (c ∷ cells) = deletes_of_cells n cells

inserts_of_effect : (n : ℕ) (k : Key) (f : Effect) → insert_count (entries_of n k f) ≡ inserts_of f
inserts_of_effect n k (effect.Ins row) = refl
inserts_of_effect n k effect.Del = refl
inserts_of_effect n k (effect.Mod cells) = inserts_of_cells n cells
inserts_of_effect n k (effect.Rep row) = refl

deletes_of_effect : (n : ℕ) (k : Key) (f : Effect) → delete_count (entries_of n k f) ≡ deletes_of f
deletes_of_effect n k (effect.Ins row) = refl
deletes_of_effect n k effect.Del = refl
deletes_of_effect n k (effect.Mod cells) = deletes_of_cells n cells
deletes_of_effect n k (effect.Rep row) = refl

module _ (key : Key) (t : Table) where
  abbrev pub low : Effects → Effects
  low x = filter (λ e. is_lt (key_cmp e.0 key)) x

  abbrev pub high : Effects → Effects
  high x = filter (λ e. not (is_lt (key_cmp e.0 key))) x

  none_more : (n : ℕ) → n ≡ 0 + n
  none_more n = omega arith

  pub inserts_below : (x : Effects) → insert_count (canonical_entries t (low x)) ≡ sum_below inserts_of key x
  inserts_below [] = refl
  inserts_below (e ∷ x) = grind (arith, common_steps, inserts_below x, is_below, inserts_of, sum_below, insert_count-append, inserts_of_effect, none_more)

  pub deletes_below : (x : Effects) → delete_count (canonical_entries t (low x)) ≡ sum_below deletes_of key x
  deletes_below [] = refl
  deletes_below (e ∷ x) = grind (arith, common_steps, deletes_below x, is_below, deletes_of, sum_below, delete_count-append, deletes_of_effect, none_more)

  module _ (key_cols : ℕ) where
    -- whether an entry stands before an insert of the key
    abbrev pub test : Entry → Bool
    test = stands_before (insert_cmp key_cols key) (rank key t)

    gt_of : (n m : ℕ) (o : Ordering) → m < n → T (is_gt (ordering_then (nat_cmp n m) o))
    gt_of n m o lt = search rules

    gt_level : (n m : ℕ) (o : Ordering) → m ≤ n → o ≡ Greater → T (is_gt (ordering_then (nat_cmp n m) o))
    gt_level n m o le is = search rules

    not_gt : (n m : ℕ) (o : Ordering) → n ≤ m → T (not (is_gt o)) → T (not (is_gt (ordering_then (nat_cmp n m) o)))
    not_gt n m o le h = search rules

    equal : (r : Ordering) → T (elim r [ Less ↦ false | Equal ↦ true | Greater ↦ false ]) → r ≡ Equal
    equal Less h = absurd h
    equal Equal h = refl
    equal Greater h = absurd h

    own_key : (k : Key) (row : Row) → T (eq_by_cmp key_cmp k (key_of key_cols row)) → key_of key_cols row ≡ k
    own_key k row h = sym (key_cmp-IsAntisymmetric k (key_of key_cols row) (equal (key_cmp k (key_of key_cols row)) h))

    -- of a smaller key each entry does
    low_cells : (k : Key) (cells : Cells) → rank k t < rank key t → T (list_all test (map (λ c. entry_at (rank k t) (Mod c.0 c.1)) cells))
    low_cells k [] lt = tt
    low_cells k (c ∷ cells) lt =
        both (test (entry_at (rank k t) (Mod c.0 c.1))) _ (gt_of (rank key t) (rank k t) Less lt) (low_cells k cells lt)

    low_insert : (k : Key) (row : Row) → key_cmp k key ≡ Less → T (eq_by_cmp key_cmp k (key_of key_cols row))
        → T (test (entry_at (rank k t) (Ins row)))
    low_insert k row below own =
        gt_level (rank key t) (rank k t) (key_cmp key (key_of key_cols row)) (rank-le k key t below)
        (ap (key_cmp key) (own_key k row own) ∙ turn_less key_cmp_total k key below)

    low_effect : (k : Key) (f : Effect) → key_cmp k key ≡ Less → T (is_keyed_effect key_cols k f) → T (fits (row_at t k) f)
        → T (list_all test (entries_of (rank k t) k f))
    low_effect k (effect.Ins row) below own fit = both (test (entry_at (rank k t) (Ins row))) _ (low_insert k row below own) tt
    low_effect k effect.Del below own fit = grind (arith, common_steps, both, gt_of, rank-lt)
    low_effect k (effect.Mod cells) below own fit = low_cells k cells (rank-lt k key t below fit)
    low_effect k (effect.Rep row) below own fit = grind (arith, common_steps, both, low_insert, gt_of, rank-lt)

    -- of another key none does
    pub above_le : (k : Key) → is_lt (key_cmp k key) ≡ false → rank key t ≤ rank k t
    above_le k above =
        elim (key_cmp k key) as (λ r. key_cmp k key ≡ r → is_lt r ≡ false → rank key t ≤ rank k t) [
          | Less ↦ λ q h. cc
          | Equal ↦ λ q h. let same = ap (λ j. rank j t) (key_cmp-IsAntisymmetric k key q) in omega (arith, same)
          | Greater ↦ λ q h. rank-le key k t (turn_greater key_cmp_total k key q)
        ] refl above

    above_not : (k : Key) → is_lt (key_cmp k key) ≡ false → T (not (is_gt (key_cmp key k)))
    above_not k above =
        elim (key_cmp key k) as (λ r. key_cmp key k ≡ r → T (not (is_gt r))) [
          | Less ↦ λ q. tt
          | Equal ↦ λ q. tt
          | Greater ↦ λ q. let less = ap is_lt (turn_greater key_cmp_total key k q) in cc
        ] refl

    high_insert : (k : Key) (row : Row) → is_lt (key_cmp k key) ≡ false → T (eq_by_cmp key_cmp k (key_of key_cols row))
        → T (not (test (entry_at (rank k t) (Ins row))))
    high_insert k row above own = grind (arith, common_steps, not_gt, above_le, is_gt, own_key, above_not)

    high_cells : (k : Key) (cells : Cells) → rank key t ≤ rank k t
        → T (list_all (λ e. not (test e)) (map (λ c. entry_at (rank k t) (Mod c.0 c.1)) cells))
    high_cells k [] le = tt
    high_cells k (c ∷ cells) le = grind (arith, common_steps, high_cells k cells le, both, not_gt)

    high_effect : (k : Key) (f : Effect) → is_lt (key_cmp k key) ≡ false → T (is_keyed_effect key_cols k f)
        → T (list_all (λ e. not (test e)) (entries_of (rank k t) k f))
    high_effect k (effect.Ins row) above own = both (not (test (entry_at (rank k t) (Ins row)))) _ (high_insert k row above own) tt
    high_effect k effect.Del above own = grind (arith, common_steps, both, not_gt, above_le)
    high_effect k (effect.Mod cells) above own = high_cells k cells (above_le k above)
    high_effect k (effect.Rep row) above own = grind (arith, common_steps, both, high_insert, not_gt, above_le)

    all_append : (p : Entry → Bool) (xs ys : List Entry) → T (list_all p xs) → T (list_all p ys) → T (list_all p (xs ++ ys))
    all_append p [] ys h k = k
    all_append p (x ∷ xs) ys h k = both (p x) _ (first (p x) _ h) (all_append p xs ys (second (p x) _ h) k)

    less_of : (r : Ordering) → is_lt r ≡ true → r ≡ Less
    less_of Less e = refl
    less_of Equal e = cc
    less_of Greater e = cc

    -- the entries of smaller keys stand before an insert of the key
    pub low_all : (x : Effects) → T (list_all (λ e. is_keyed_effect key_cols e.0 e.1) x) → T (all_fit t x)
        → T (list_all test (canonical_entries t (low x)))
    low_all [] own fit = tt
    low_all (e ∷ x) own fit = grind (arith, common_steps, low_all x (second (is_keyed_effect key_cols e.0 e.1) _ own) (second (fits (row_at t e.0) e.1) _ fit), second, all_append, low_effect, less_of, first)

    -- and those of the other keys behind it
    pub high_all : (x : Effects) → T (list_all (λ e. is_keyed_effect key_cols e.0 e.1) x)
        → T (list_all (λ e. not (test e)) (canonical_entries t (high x)))
    high_all [] own = tt
    high_all (e ∷ x) own = grind (arith, common_steps, high_all x (second (is_keyed_effect key_cols e.0 e.1) _ own), second, all_append, high_effect, first)

-- the first entries of a split are those that pass
pub split_is : (p : Entry → Bool) (es : List Entry) (n : ℕ) → IsSplit p es n → filter p es ≡ take n es
split_is p es n h =
    ap (filter p) (sym (take-append-drop n es)) ∙ filter-append p (take n es) (drop n es)
    ∙ (λ i. filter_all p (take n es) h.before i ++ filter_none p (drop n es) h.after i) ∙ append_none (take n es)
  where
    append_none : (xs : List Entry) → xs ++ [] ≡ xs
    append_none [] = refl
    append_none (x ∷ xs) = ap (λ ys. x ∷ ys) (append_none xs)

module _ (schema : Columns) (t : Table) (x : Effects) (h : AreOver schema t x) (key : Key) where
  -- each effect is of its key
  pub keyed_effects : T (list_all (λ e. is_keyed_effect schema.key_cols e.0 e.1) x)
  keyed_effects = second (is_sorted key_cmp x) _ (passes (are_keyed_effects schema.key_cols x) h.effects_are.keyed)

  -- the effects ascend by key
  pub sorted_effects : T (is_sorted key_cmp x)
  sorted_effects = search rules

  -- so do the rows
  pub sorted_table : T (is_sorted key_cmp t)
  sorted_table = first (is_sorted key_cmp t) _ (passes (is_keyed_table schema.key_cols t) h.table.keyed)

  -- each effect fits the row that it finds
  pub fitting_effects : T (all_fit t x)
  fitting_effects = passes (all_fit t x) h.fit

  abbrev pub entries : List Entry
  entries = canonical_entries t x

  -- the entries before an insert of the key are those of the smaller keys
  pub before_key : (n : ℕ) → IsSplit (stands_before (insert_cmp schema.key_cols key) (rank key t)) entries n
      → take n entries ≡ canonical_entries t (low key t x)
  before_key n split =
      let p = test key t schema.key_cols in
      let is = canonical_entries-at_key schema t x key h.effects_are in
      sym (split_is p entries n split)
      ∙ ap (filter p) is
      ∙ filter-append p (canonical_entries t (low key t x)) (canonical_entries t (high key t x))
      ∙ (λ i. filter_all p (canonical_entries t (low key t x)) (low_all key t schema.key_cols x keyed_effects fitting_effects) i
      ++ filter_none p (canonical_entries t (high key t x)) (high_all key t schema.key_cols x keyed_effects) i)
      ∙ append_none (canonical_entries t (low key t x))
    where
      append_none : (xs : List Entry) → xs ++ [] ≡ xs
      append_none [] = refl
      append_none (y ∷ xs) = ap (λ ys. y ∷ ys) (append_none xs)

  -- so its position is the rank in the image
  pub rank_is : (n : ℕ) → IsSplit (stands_before (insert_cmp schema.key_cols key) (rank key t)) entries n
      → rid_of_insert (take n entries) (rank key t) ≡ rank key (table_with t x)
  rank_is n split = grind (arith, common_steps, before_key, inserts_below, deletes_below, rank-table_with, sorted_table, sorted_effects, fitting_effects)
