-- One entry against a tree over the same image: its place in the tree's image, and where it clashes.
use Rattle.std.proofs.Common.{◌≡◌, ℕ, zero, suc, ◌+◌, Bool, true, false, cond, not, ◌&&◌, ◌||◌, T, Some, None, is_some, List, rules}
use Rattle.std.proofs.Common.{[], ◌∷◌, ◌++◌, map, length, filter, take, drop, nat_cmp, Ordering, Less, Equal, Greater, is_lt, is_eq}
use Rattle.std.proofs.Common.{is_gt, refl, sym, ap, ◌∙◌, subst, arith, take-append-drop, length-take}
use Rattle.std.specs.Prelude.{◌==◌, nat_lt, slice_get}
use Rattle.std.specs.List.{list_all}
use Rattle.std.specs.Ordering.{eq_by_cmp, ordering_then}
use Rattle.std.specs.Cmp.{tied_itself}
use Rattle.std.proofs.lemmas.Bool.{eqb-true}
use Rattle.std.proofs.lemmas.Bool.Decides.{nat_tests}
use Rattle.values.specs.Orders.{key_cmp, key_cmp_total, key_cmp-IsAntisymmetric}
use Rattle.values.specs.Shape.{key_of}
use Rattle.values.specs.declared.row.Row.{Row}
use Rattle.values.specs.declared.row.Key.{Key}
use Rattle.model.specs.declared.clash.ConflictRule.{ConflictRule}
use Rattle.model.specs.declared.clash.ConflictRule.TheVariants.{ByColumn, ByRow}
use Rattle.model.specs.declared.entry.Entry.{Entry}
use Rattle.model.specs.declared.entry.Change.{Change}
use Rattle.model.specs.declared.entry.Change.TheVariants.{Ins, Del, Mod}
use Rattle.model.specs.declared.effect.Effect.{Effect}
use Rattle.model.specs.declared.effect.Effect.TheVariants as effect
use Rattle.model.specs.Table.{Table, rank}
use Rattle.model.specs.Effects.{Cells, Effects, is_keyed_effect}
use Rattle.model.specs.Entries.{entry_at, entries_of, canonical_entries, change_cmp, entry_cmp, are_ordered}
use Rattle.model.specs.Places.{insert_count, delete_count, rid_of_insert}
use Rattle.model.specs.Rebasing.{or_clash, clash_of_entries, clash_with, stands_first, inserts_before, deletes_before}
use Rattle.model.specs.Rebasing.{rebased_entry}
use Rattle.model.proofs.CallerLemmas.{first, second, both, less, turn_less, turn_greater}
use Rattle.delta.specs.Search.{stands_before, IsSplit}
use Rattle.delta.proofs.CallerLemmas.{insert_worth, delete_worth, entry_cmp-trans, ordered_right}
use Rattle.delta.proofs.CallerLemmas.{split_is}
use Rattle.layers.specs.Serialization.{row_cmp, clash_cmp, clash_with_first}
use Rattle.layers.proofs.RowPlaceLemmas.{cond_length, inserts_cond, deletes_cond}
use Rattle.std.proofs.lemmas.Grind.{common_steps}

-- ---- the first entry that is left

module _ (rule : ConflictRule) (key_cols i j : ℕ) (x : Entry) where
  pub clash_first : (y : Entry) (es : List Entry) → slice_get es j ≡ Some y →
      or_clash i j (clash_of_entries rule key_cols x y) None ≡ clash_with_first rule key_cols i x j (drop j es)
  clash_first y es is = by j es is
    where
      by : (n : ℕ) (zs : List Entry) → slice_get zs n ≡ Some y →
          or_clash i j (clash_of_entries rule key_cols x y) None ≡ clash_with_first rule key_cols i x j (drop n zs)
      by n [] p = cc
      by zero (z ∷ zs) p = let same : y ≡ z = cc in ap (λ (e : Entry). or_clash i j (clash_of_entries rule key_cols x e) None) same
      by (suc n) (z ∷ zs) p = by n zs p

  pub clash_none : (es : List Entry) → slice_get es j ≡ None → None ≡ clash_with_first rule key_cols i x j (drop j es)
  clash_none es is = by j es is
    where
      by : (n : ℕ) (zs : List Entry) → slice_get zs n ≡ None → None ≡ clash_with_first rule key_cols i x j (drop n zs)
      by zero [] p = refl
      by (suc n) [] p = refl
      by zero (z ∷ zs) p = cc
      by (suc n) (z ∷ zs) p = by n zs p

-- ---- the position of an entry in the image of the tree

zero_if : (b : Bool) → ◌≡◌ {A = ℕ} 0 (cond b 0 0)
zero_if true = refl
zero_if false = refl

-- how an order of SIDs and then of changes is tested
test_is : (a s : ℕ) (o : Ordering) → (nat_lt a s || ((a == s) && is_gt o)) ≡ is_gt (ordering_then (nat_cmp s a) o)
test_is a s Less = grind (arith, nat_tests)
test_is a s Equal = grind (arith, nat_tests)
test_is a s Greater = grind (arith, nat_tests)

below_is : (a s : ℕ) → nat_lt a s ≡ is_gt (ordering_then (nat_cmp s a) Less)
below_is a s = grind (arith, nat_tests)

level_is : (a s : ℕ) → nat_lt a s ≡ is_gt (ordering_then (nat_cmp s a) Equal)
level_is a s = grind (arith, nat_tests)

turned : (j k : Key) → is_lt (key_cmp j k) ≡ is_gt (key_cmp k j)
turned j k = by (key_cmp j k) refl
  where
    by : (r : Ordering) → key_cmp j k ≡ r → is_lt r ≡ is_gt (key_cmp k j)
    by Less p = sym (ap is_gt (turn_less key_cmp_total j k p))
    by Equal p = sym (ap is_gt (ap (key_cmp k) (key_cmp-IsAntisymmetric j k p) ∙ tied_itself key_cmp_total k))
    by Greater p = sym (ap is_gt (turn_greater key_cmp_total j k p))

module _ (rule : ConflictRule) (key_cols : ℕ) (x : Entry) where
  abbrev before : Entry → Bool
  before = stands_before (clash_cmp key_cols rule x.change) x.sid

  -- an insert stands first where its change does
  first_is : (other : Row) (c : Change) → stands_first key_cols (Ins other) c ≡ is_gt (clash_cmp key_cols rule c (Ins other))
  first_is other c = by c ∙ ap is_gt (sym (to_insert rule c))
    where
      by : (d : Change) → stands_first key_cols (Ins other) d ≡ is_gt (change_cmp key_cols d (Ins other))
      by (Ins row) = turned (key_of key_cols other) (key_of key_cols row)
      by (Del key) = refl
      by (Mod col value) = refl

      to_insert : (r : ConflictRule) (d : Change) → clash_cmp key_cols r d (Ins other) ≡ change_cmp key_cols d (Ins other)
      to_insert ByColumn d = refl
      to_insert ByRow (Ins row) = refl
      to_insert ByRow (Del key) = refl
      to_insert ByRow (Mod col value) = refl

  one_insert : (c : Change) (n : ℕ) → cond (inserts_before key_cols x (entry_at n c)) 1 0 ≡ cond (before (entry_at n c)) (insert_worth c) 0
  one_insert (Ins other) n = grind (arith, common_steps, first_is, test_is)
  one_insert (Del gone) n = zero_if (before (entry_at n (Del gone)))
  one_insert (Mod col value) n = zero_if (before (entry_at n (Mod col value)))

  deleted_is : (r : ConflictRule) (c : Change) (gone : Key) (n : ℕ)
      → nat_lt n x.sid ≡ is_gt (ordering_then (nat_cmp x.sid n) (clash_cmp key_cols r c (Del gone)))
  deleted_is ByColumn (Ins row) gone n = below_is n x.sid
  deleted_is ByRow (Ins row) gone n = below_is n x.sid
  deleted_is ByColumn (Del key) gone n = level_is n x.sid
  deleted_is ByRow (Del key) gone n = level_is n x.sid
  deleted_is ByColumn (Mod col value) gone n = level_is n x.sid
  deleted_is ByRow (Mod col value) gone n = level_is n x.sid

  one_delete : (c : Change) (n : ℕ) → cond (deletes_before key_cols x (entry_at n c)) 1 0 ≡ cond (before (entry_at n c)) (delete_worth c) 0
  one_delete (Ins other) n = zero_if (before (entry_at n (Ins other)))
  one_delete (Del gone) n = ap (λ b. cond b 1 0) (deleted_is rule x.change gone n)
  one_delete (Mod col value) n = zero_if (before (entry_at n (Mod col value)))

  inserts_are : (es : List Entry) → length (filter (inserts_before key_cols x) es) ≡ insert_count (filter before es)
  inserts_are [] = refl
  inserts_are (e ∷ es) = grind (arith, common_steps, inserts_are es, cond_length, inserts_cond, one_insert)

  deletes_are : (es : List Entry) → length (filter (deletes_before key_cols x) es) ≡ delete_count (filter before es)
  deletes_are [] = refl
  deletes_are (e ∷ es) = grind (arith, common_steps, deletes_are es, cond_length, deletes_cond, one_delete)

  -- the place of a change gives its position in the image of the tree
  pub rebased_place : (es : List Entry) (n : ℕ) → IsSplit before es n → rid_of_insert (take n es) x.sid ≡ (rebased_entry key_cols es x).sid
  rebased_place es n split = grind (arith, common_steps, inserts_are, split_is, deletes_are)

-- ---- where it clashes

is_true : (b : Bool) → T b → b ≡ true
is_true true h = refl
is_true false h = absurd h

pub equal : (r : Ordering) → is_eq r ≡ true → r ≡ Equal
equal Less e = cc
equal Equal e = refl
equal Greater e = cc

number_is : (n m : ℕ) → n ≡ m → (n == m) ≡ true
number_is n m h = grind (arith, nat_tests)

module _ (key_cols : ℕ) where
  -- inserts of one key stand at one SID
  abbrev pub agree_at : Bool → Change → Change → Bool
  agree_at here (Ins row) (Ins other) = cond (eq_by_cmp key_cmp (key_of key_cols row) (key_of key_cols other)) here true
  agree_at here (Ins row) d = true
  agree_at here c d = true

  abbrev pub agrees : Entry → Entry → Bool
  agrees x y = agree_at (x.sid == y.sid) x.change y.change

  module _ (rule : ConflictRule) where
    -- how entries stand to one another, so that those tie that can clash
    abbrev pub clash_order : Entry → Entry → Ordering
    clash_order x y = ordering_then (nat_cmp x.sid y.sid) (clash_cmp key_cols rule x.change y.change)

    -- an entry past one that is past it is past it too
    row_cmp-trans : (c : Change) (n : ℕ) (y z : Entry) → ordering_then (nat_cmp n y.sid) (row_cmp key_cols c y.change) ≡ Less →
        entry_cmp key_cols y z ≡ Less → ordering_then (nat_cmp n z.sid) (row_cmp key_cols c z.change) ≡ Less
    row_cmp-trans (Ins row) n y z p q = entry_cmp-trans key_cols (entry_at n (Ins row)) y z p q
    row_cmp-trans (Del key) n y z p q = entry_cmp-trans key_cols (entry_at n (Del key)) y z p q
    row_cmp-trans (Mod col value) n y z p q = search rules

    pub clash_order-trans : (x y z : Entry) → clash_order x y ≡ Less → entry_cmp key_cols y z ≡ Less → clash_order x z ≡ Less
    clash_order-trans x y z p q = grind (arith, common_steps, nat_cmp, entry_cmp-trans, row_cmp-trans)

    module _ (x : Entry) where
      pub unclashed_entry : (y : Entry) → T (agrees x y) → (clash_order x y ≡ Equal → ⊥) → clash_of_entries rule key_cols x y ≡ None
      unclashed_entry y a f = search rules

      pub tied_entry : (y : Entry) → clash_order x y ≡ Equal → is_some (clash_of_entries rule key_cols x y) ≡ true
      tied_entry y e = search rules

      -- an entry that isn't before it, and doesn't clash, is past it
      past_it : (y : Entry) → T (not (is_gt (clash_order x y))) → clash_of_entries rule key_cols x y ≡ None → clash_order x y ≡ Less
      past_it y n none = search rules

      none_past : (y : Entry) (zs : List Entry) (i j : ℕ) → clash_order x y ≡ Less → T (list_all (λ z. is_lt (entry_cmp key_cols y z)) zs) →
          T (list_all (agrees x) zs) → clash_with rule key_cols i x j zs ≡ None
      none_past y [] i j lt h a = refl
      none_past y (z ∷ zs) i j lt h a = grind (arith, common_steps, none_past y zs i (suc j) lt (second (is_lt (entry_cmp key_cols y z)) _ h) (second (agrees x z) _ a), clash_order-trans, less, first, unclashed_entry, second)

      abbrev stands_off : Entry → Bool
      stands_off y = stands_before (clash_cmp key_cols rule x.change) x.sid y

      skips : (xs ys : List Entry) (i j : ℕ) → T (list_all stands_off xs) → T (list_all (agrees x) xs) →
          clash_with rule key_cols i x j (xs ++ ys) ≡ clash_with rule key_cols i x (j + length xs) ys
      skips [] ys i j h a = let none : j ≡ j + 0 = omega arith in ap (λ n. clash_with rule key_cols i x n ys) none
      skips (y ∷ xs) ys i j h a = grind (arith, common_steps, skips xs ys i (suc j) (second (stands_off y) _ h) (second (agrees x y) _ a), unclashed_entry, first, second, is_gt)

      at_head : (ys : List Entry) (i j : ℕ) → T (are_ordered key_cols ys) → T (list_all (λ y. not (stands_off y)) ys) →
          T (list_all (agrees x) ys) → clash_with rule key_cols i x j ys ≡ clash_with_first rule key_cols i x j ys
      at_head [] i j o h a = refl
      at_head (y ∷ ys) i j o h a = grind (arith, common_steps, past_it, first, none_past, second)

      all_first : (p : Entry → Bool) (n : ℕ) (es : List Entry) → T (list_all p es) → T (list_all p (take n es))
      all_first p zero es h = tt
      all_first p (suc n) [] h = tt
      all_first p (suc n) (e ∷ es) h = both (p e) _ (first (p e) _ h) (all_first p n es (second (p e) _ h))

      all_rest : (p : Entry → Bool) (n : ℕ) (es : List Entry) → T (list_all p es) → T (list_all p (drop n es))
      all_rest p zero es h = h
      all_rest p (suc n) [] h = tt
      all_rest p (suc n) (e ∷ es) h = all_rest p n es (second (p e) _ h)

      -- the first clash is that with the entry at the change's place, or there is none
      pub clash_place : (es : List Entry) (n i : ℕ) → T (are_ordered key_cols es) → IsSplit stands_off es n → T (list_all (agrees x) es) →
          clash_with rule key_cols i x 0 es ≡ clash_with_first rule key_cols i x n (drop n es)
      clash_place es n i o split a =
          let count : 0 + length (take n es) ≡ n = omega (arith, length-take n es, split.within) in
          let order = ordered_right key_cols (take n es) (drop n es)
          (subst (λ zs. T (are_ordered key_cols zs)) (sym (take-append-drop n es)) o) in
          ap (clash_with rule key_cols i x 0) (sym (take-append-drop n es))
          ∙ skips (take n es) (drop n es) i 0 split.before (all_first (agrees x) n es a)
          ∙ ap (λ m. clash_with rule key_cols i x m (drop n es)) count
          ∙ at_head (drop n es) i n order split.after (all_rest (agrees x) n es a)

  -- ---- entries over one table agree

  module _ (t : Table) where
    -- an insert stands at the number of the table's keys below its own
    abbrev pub ranked_at : ℕ → Change → Bool
    ranked_at n (Ins row) = n == rank (key_of key_cols row) t
    ranked_at n (Del key) = true
    ranked_at n (Mod col value) = true

    abbrev pub is_ranked : Entry → Bool
    is_ranked e = ranked_at e.sid e.change

    from_eq : (b : Bool) → b ≡ true → T b
    from_eq true e = tt
    from_eq false e = cc

    agree_ranked : (n m : ℕ) (c d : Change) → T (ranked_at n c) → T (ranked_at m d) → T (agree_at (n == m) c d)
    agree_ranked n m (Ins row) (Ins other) p q = by (eq_by_cmp key_cmp (key_of key_cols row) (key_of key_cols other)) refl
      where
        by : (b : Bool) → eq_by_cmp key_cmp (key_of key_cols row) (key_of key_cols other) ≡ b → T (cond b (n == m) true)
        by true e =
            let one : n ≡ rank (key_of key_cols row) t = eqb-true n (rank (key_of key_cols row) t) (is_true _ p) in
            let two : m ≡ rank (key_of key_cols other) t = eqb-true m (rank (key_of key_cols other) t) (is_true _ q) in
            let keys = ap (λ k. rank k t) (key_cmp-IsAntisymmetric (key_of key_cols row) (key_of key_cols other)
            (equal (key_cmp (key_of key_cols row) (key_of key_cols other)) e)) in
            from_eq (n == m) (number_is n m (one ∙ keys ∙ sym two))
        by false e = tt
    agree_ranked n m (Ins row) (Del key) p q = tt
    agree_ranked n m (Ins row) (Mod col value) p q = tt
    agree_ranked n m (Del key) (Ins row) p q = tt
    agree_ranked n m (Del key) (Del other) p q = tt
    agree_ranked n m (Del key) (Mod col value) p q = tt
    agree_ranked n m (Mod col value) (Ins row) p q = tt
    agree_ranked n m (Mod col value) (Del key) p q = tt
    agree_ranked n m (Mod col value) (Mod other w) p q = tt

    pub agree_all : (x : Entry) (ys : List Entry) → T (is_ranked x) → T (list_all is_ranked ys) → T (list_all (agrees x) ys)
    agree_all x [] p q = tt
    agree_all x (y ∷ ys) p q = both (agrees x y) _ (agree_ranked x.sid y.sid x.change y.change p (first (is_ranked y) _ q))
        (agree_all x ys p (second (is_ranked y) _ q))

    all_append : (xs ys : List Entry) → T (list_all is_ranked xs) → T (list_all is_ranked ys) → T (list_all is_ranked (xs ++ ys))
    all_append [] ys h k = k
    all_append (x ∷ xs) ys h k = both (is_ranked x) _ (first (is_ranked x) _ h) (all_append xs ys (second (is_ranked x) _ h) k)

    ranked_cells : (n : ℕ) (cells : Cells) → T (list_all is_ranked (map (λ c. entry_at n (Mod c.0 c.1)) cells))
    ranked_cells n [] = tt
    ranked_cells n (c ∷ cells) = ranked_cells n cells

    own_rank : (k : Key) (row : Row) → T (eq_by_cmp key_cmp k (key_of key_cols row)) → T (rank k t == rank (key_of key_cols row) t)
    own_rank k row h = from_eq _ (number_is _ _
        (ap (λ j. rank j t) (key_cmp-IsAntisymmetric k (key_of key_cols row) (equal (key_cmp k (key_of key_cols row)) (is_true _ h)))))

    ranked_effect : (k : Key) (f : Effect) → T (is_keyed_effect key_cols k f) → T (list_all is_ranked (entries_of (rank k t) k f))
    ranked_effect k (effect.Ins row) h = both (rank k t == rank (key_of key_cols row) t) true (own_rank k row h) tt
    ranked_effect k effect.Del h = tt
    ranked_effect k (effect.Mod cells) h = ranked_cells (rank k t) cells
    ranked_effect k (effect.Rep row) h = both (rank k t == rank (key_of key_cols row) t) true (own_rank k row h) tt

    pub ranked-canonical_entries : (x : Effects) → T (list_all (λ e. is_keyed_effect key_cols e.0 e.1) x)
        → T (list_all is_ranked (canonical_entries t x))
    ranked-canonical_entries [] h = tt
    ranked-canonical_entries (e ∷ x) h = grind (arith, common_steps, ranked-canonical_entries x (second (is_keyed_effect key_cols e.0 e.1) _ h), all_append, ranked_effect, first, second)
