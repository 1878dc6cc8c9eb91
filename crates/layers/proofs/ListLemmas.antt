-- Entries in a list, which move past another tree where they stand.
use Rattle.std.proofs.Common.{Bor, ◌≡◌, ℕ, zero, suc, ◌+◌, ◌-◌, ◌<◌, ◌≤◌, ◌^◌, rules}
use Rattle.std.proofs.Common.{false, T, Option, Some, None, List, [], ◌∷◌, map, length, take, drop, refl, sym}
use Rattle.std.proofs.Common.{ap, ◌∙◌, subst, arith}
use Rattle.std.specs.Prelude.{is_some, nat_lt, slice_get, slice_index_or, slice_set}
use Rattle.std.specs.Option.{option_copied}
use Rattle.std.specs.List.{All, list_all}
use Rattle.std.proofs.lemmas.Option.{slice_get-get_or, slice_get_within}
use Rattle.std.proofs.lemmas.List.{take_more_set, drop-set-lt}
use Rattle.model.specs.declared.clash.ClashKind.{ClashKind}
use Rattle.model.specs.declared.clash.ConflictRule.TheVariants.{ByColumn}
use Rattle.model.specs.declared.clash.ConflictRule.{ConflictRule}
use Rattle.model.specs.declared.entry.Entry.{Entry}
use Rattle.model.specs.Entries.{are_ordered, entry_at, entry_cmp}
use Rattle.model.specs.Places.{insert_count, delete_count}
use Rattle.model.specs.Rebasing.{clash_of_entries, clash_with, first_clash, first_clash_from, or_clash, rebased_entry, rebased_entries}
use Rattle.delta.specs.Search.{IsSplit}
use Rattle.delta.specs.Tree.{Tree}
use Rattle.layers.specs.declared.cursor.Cursor.{Cursor}
use Rattle.layers.specs.Held.{moved_by}
use Rattle.layers.specs.Over.{AreAligned}
use Rattle.layers.specs.Passing.{IsCursor, AreBefore}
use Rattle.layers.specs.Serialization.{clash_with_first}
use Rattle.model.proofs.CallerLemmas.{both, first, second}
use Rattle.layers.proofs.ClashLemmas.{agrees, rebased_place}
use Rattle.layers.proofs.PassLemmas.{is_before, tested, greater_sid, split_none, split_some, all_still}
use Rattle.layers.proofs.SerialLemmas.{head_drop, clear_next, moved_next, none_left, holds_at, agree, order_y, clash_is}
use Rattle.layers.proofs.SerialLemmas.{in_order, small_sid}
use Rattle.layers.proofs.StillLemmas.{stand_still}
use Rattle.std.proofs.lemmas.Grind.{common_steps}

-- lists that are the same from an index on have the same there
pub same_at : (n : ℕ) (xs ys : List Entry) (e : Entry) → drop n xs ≡ drop n ys → slice_get xs n ≡ Some e → slice_get ys n ≡ Some e
same_at n xs ys e h at = sym (by n ys) ∙ sym (ap (λ (zs : List Entry). slice_get zs 0) h) ∙ by n xs ∙ at
  where
    by : (m : ℕ) (zs : List Entry) → slice_get (drop m zs) 0 ≡ slice_get zs m
    by zero zs = refl
    by (suc m) [] = refl
    by (suc m) (z ∷ zs) = by m zs

pub some_is : (a b : Entry) → ◌≡◌ {A = Option Entry} (Some a) (Some b) → a ≡ b
some_is a b h = cc

pub none_copied : (o : Option (Bor Entry)) → is_some o ≡ false → option_copied o ≡ None
none_copied None h = refl
none_copied (Some e) h = cc

dropped_at : (n k : ℕ) (es : List Entry) → slice_get (drop n es) k ≡ slice_get es (n + k)
dropped_at zero k es = let same : zero + k ≡ k = omega arith in sym (ap (slice_get es) same)
dropped_at (suc n) k [] = refl
dropped_at (suc n) k (e ∷ es) = let next : suc n + k ≡ suc (n + k) = omega arith in dropped_at n k es ∙ sym (ap (slice_get (e ∷ es)) next)

pub drop_next : (n : ℕ) (xs ys : List Entry) → drop n xs ≡ drop n ys → drop (n + 1) xs ≡ drop (n + 1) ys
drop_next n xs ys h = grind (arith, common_steps)

none_there : (m : ℕ) (es : List Entry) → slice_get es m ≡ None → length es ≤ m
none_there m [] h = omega arith
none_there zero (z ∷ es) h = cc
none_there (suc m) (z ∷ es) h = let le = none_there m es h in omega (arith, le)

taken_at : (m n : ℕ) (es : List Entry) (e : Entry) → slice_get es m ≡ Some e → suc m ≤ n → slice_get (take n es) m ≡ Some e
taken_at m n [] e at le = cc
taken_at m zero (z ∷ es) e at le = absurd (omega arith)
taken_at zero (suc n) (z ∷ es) e at le = at
taken_at (suc m) (suc n) (z ∷ es) e at le = taken_at m n es e at (omega arith)

below_is : (n m : ℕ) → T (nat_lt n m) → n < m
below_is n m h = search rules

module _ (key_cols : ℕ) (rule : ConflictRule) where
  -- an entry isn't before one that stands below it
  not_before : (e y : Entry) → e.sid < y.sid → is_before key_cols rule e y ≡ false
  not_before e y lt = search rules

  -- and clashes with none above it
  unclashed_below : (e y : Entry) → T (agrees key_cols e y) → e.sid < y.sid → clash_of_entries rule key_cols e y ≡ None
  unclashed_below e y a lt = search rules

  all_before : (y : Entry) (es : List Entry) → T (list_all (λ e. nat_lt e.sid y.sid) es) → T (list_all (is_before key_cols ByColumn y) es)
  all_before y [] h = tt
  all_before y (e ∷ es) h = grind (arith, common_steps, all_before y es (second (nat_lt e.sid y.sid) _ h), below_is, first, greater_sid, both, is_before, tested, second)

module _ (rule : ConflictRule) (x y : Tree) (w : AreAligned x y) where
  -- so many of the entries have moved, and clash with none; the cursor is ready for the next one
  pub record IsMoved (entries : List Entry) (c : Cursor) (n : ℕ) : Type 0 where
    pub tree : c.tree.now ≡ y
    pub cursor : IsCursor c
    pub within : n ≤ length x.entries
    pub moved : take n entries ≡ rebased_entries y.key_cols y.entries (take n x.entries)
    pub left : drop n entries ≡ drop n x.entries
    pub ready : (e : Entry) → slice_get x.entries n ≡ Some e → AreBefore rule c e
    pub clear :
        first_clash rule y.key_cols x.entries y.entries ≡ first_clash_from rule y.key_cols n (drop n x.entries) y.entries

  -- their SIDs are small
  pub small_from : (n : ℕ) → All (λ e. e.sid < 2 ^ 63) (drop n x.entries)
  small_from n k d lt =
      let e = slice_index_or (drop n x.entries) k d in
      small_sid rule x y w (n + k) e (sym (dropped_at n k x.entries) ∙ slice_get-get_or (drop n x.entries) k d lt)

  -- what was ready for an entry is ready for the next one
  pub ready_for_next : (c : Cursor) (n : ℕ) (e : Entry) → c.tree.now ≡ y → slice_get x.entries n ≡ Some e → AreBefore rule c e
      → (z : Entry) → slice_get x.entries (n + 1) ≡ Some z → AreBefore rule c z
  ready_for_next c n e tree at ready z next =
      let below = ap (λ (t : Tree). entry_cmp t.key_cols e z) tree ∙ in_order rule x y w n e z at next in
      all_still c.tree.now.key_cols rule e z (take c.passed c.tree.now.entries) below ready

  -- the entry that the cursor has looked for moves
  pub goes_on : (entries : List Entry) (c d : Cursor) (n rid : ℕ) (e : Entry) → IsMoved entries c n → slice_get entries n ≡ Some e
      → d.tree.now ≡ c.tree.now → IsCursor d → AreBefore rule d e → rid ≡ (rebased_entry y.key_cols y.entries e).sid
      → clash_with rule y.key_cols n e 0 y.entries ≡ None → IsMoved (slice_set entries n (entry_at rid e.change)) d (n + 1)
  goes_on entries c d n rid e inv at same cursor before rid_is none =
      let here = same_at n entries x.entries e inv.left at in
      let within = slice_get_within entries n e at in
      let tree = same ∙ inv.tree in
      record {
        tree = tree;
        cursor = cursor;
        within = let fits = slice_get_within x.entries n e here in omega (arith, fits);
        moved =
            take_more_set entries n (entry_at rid e.change) within
            ∙ moved_next y.key_cols n rid x.entries y.entries (take n entries) e here rid_is inv.moved;
        left =
            let past : n < n + 1 = omega arith in
            drop-set-lt (n + 1) entries n (entry_at rid e.change) past ∙ drop_next n entries x.entries inv.left;
        ready = λ (z : Entry) next. ready_for_next d n e tree here before z next;
        clear = inv.clear ∙ clear_next rule y.key_cols n x.entries y.entries e here none;
      }

  -- all have moved
  pub ended : (entries : List Entry) (c : Cursor) (n : ℕ) → IsMoved entries c n → length entries ≤ n → length x.entries ≤ n
      → (first_clash rule y.key_cols x.entries y.entries ≡ None) × (entries ≡ rebased_entries y.key_cols y.entries x.entries)
  ended entries c n inv end own_end = grind (arith, common_steps)

  -- ---- below the first entry of the other tree

  module _ (c : Cursor) (here : IsCursor c) (tree : c.tree.now ≡ y) (none : c.passed ≡ 0) where
    -- nothing is passed, so that it is ready for any entry
    pub ready_first : (e : Entry) → AreBefore rule c e
    ready_first e =
        subst (λ (m : ℕ). T (list_all (is_before c.tree.now.key_cols rule e) (take m c.tree.now.entries))) (sym none) tt

    module _ (y0 : Entry) (at0 : slice_get c.tree.now.entries 0 ≡ Some y0) where
      clear_below : (n : ℕ) (e : Entry) → slice_get x.entries n ≡ Some e → e.sid < y0.sid
          → clash_with rule y.key_cols n e 0 y.entries ≡ None
      clear_below n e at lt =
          let there = ap (slice_get c.tree.now.entries) none ∙ at0 in
          let split = split_some rule e c here (ready_first e) y0 there (not_before c.tree.now.key_cols rule e y0 lt) in
          let own = subst (λ (t : Tree). IsSplit (is_before t.key_cols rule e) t.entries c.passed) tree split in
          let zeroth = subst (λ (m : ℕ). IsSplit (is_before y.key_cols rule e) y.entries m) none own in
          let head = ap (λ (t : Tree). slice_get t.entries 0) (sym tree) ∙ at0 in
          clash_is rule x y w n e 0 at zeroth ∙ by y.entries head (agree rule x y w n e at)
        where
          by : (ys : List Entry) → slice_get ys 0 ≡ Some y0 → T (list_all (agrees y.key_cols e) ys)
              → clash_with_first rule y.key_cols n e 0 ys ≡ None
          by [] is a = cc
          by (z ∷ ys) is a =
              let same : z ≡ y0 = cc in
              let agreed = first (agrees y.key_cols e z) _ a in
              let below = subst (λ (q : Entry). e.sid < q.sid) (sym same) lt in
              ap (λ (k : Option ClashKind). or_clash n 0 k None) (unclashed_below y.key_cols rule e z agreed below)

      -- as many as stand below the first entry clash with none
      skipped : (m n : ℕ) → T (list_all (λ e. nat_lt e.sid y0.sid) (take n x.entries)) → m ≤ n → n ≤ length x.entries
          → first_clash rule y.key_cols x.entries y.entries ≡ first_clash_from rule y.key_cols m (drop m x.entries) y.entries
      skipped zero n below le within = refl
      skipped (suc m) n below le within = by (slice_get x.entries m) refl (skipped m n below (omega (arith, le)) within)
        where
          by : (o : Option Entry) → slice_get x.entries m ≡ o
              → first_clash rule y.key_cols x.entries y.entries ≡ first_clash_from rule y.key_cols m (drop m x.entries) y.entries
              → first_clash rule y.key_cols x.entries y.entries
              ≡ first_clash_from rule y.key_cols (suc m) (drop (suc m) x.entries) y.entries
          by None is so_far = let short = none_there m x.entries is in absurd (omega (arith, short, within, le))
          by (Some e) at so_far =
              let next : m + 1 ≡ suc m = omega arith in
              let lt = below_is e.sid y0.sid
              (holds_at (λ z. nat_lt z.sid y0.sid) m (take n x.entries) e below (taken_at m n x.entries e at le)) in
              so_far
              ∙ clear_next rule y.key_cols m x.entries y.entries e at (clear_below m e at lt)
              ∙ ap (λ (k : ℕ). first_clash_from rule y.key_cols k (drop k x.entries) y.entries) next

      pub begins : (n : ℕ) → n ≤ length x.entries → T (list_all (λ e. nat_lt e.sid y0.sid) (take n x.entries)) → IsMoved x.entries c n
      begins n within below =
          let head = ap (λ (t : Tree). slice_get t.entries 0) (sym tree) ∙ at0 in
          record {
            tree = tree;
            cursor = here;
            within = within;
            moved = by y.entries head (order_y rule x y w);
            left = refl;
            ready = λ (e : Entry) at. ready_first e;
            clear = skipped n n below (omega arith) within;
          }
        where
          by : (ys : List Entry) → slice_get ys 0 ≡ Some y0 → T (are_ordered y.key_cols ys)
              → take n x.entries ≡ rebased_entries y.key_cols ys (take n x.entries)
          by [] is order = cc
          by (z ∷ ys) is order =
              let same : z ≡ y0 = cc in
              let lower = subst (λ (q : Entry). T (list_all (λ e. nat_lt e.sid q.sid) (take n x.entries))) (sym same) below in
              sym (stand_still y.key_cols z ys (take n x.entries) order (all_before y.key_cols rule z (take n x.entries) lower))

    -- and with no entry of the other tree, none has moved yet
    pub begins_first : IsMoved x.entries c 0
    begins_first = search rules

  -- ---- past all entries of the other tree

  module _ (c : Cursor) (here : IsCursor c) (tree : c.tree.now ≡ y) (past : slice_get c.tree.now.entries c.passed ≡ None) where
    split_at : (e : Entry) → AreBefore rule c e → IsSplit (is_before y.key_cols rule e) y.entries c.passed
    split_at e before =
        subst (λ (t : Tree). IsSplit (is_before t.key_cols rule e) t.entries c.passed) tree (split_none rule e c here before past)

    moves_alike : (e : Entry) → AreBefore rule c e → rebased_entry y.key_cols y.entries e ≡ moved_by c.added c.gone e
    moves_alike e before =
        let added = here.added_is ∙ ap (λ (t : Tree). insert_count (take c.passed t.entries)) tree in
        let gone = here.gone_is ∙ ap (λ (t : Tree). delete_count (take c.passed t.entries)) tree in
        let place = rebased_place rule y.key_cols e y.entries c.passed (split_at e before) in
        let sid = (λ i. (e.sid + added i) - gone i) ∙ place in
        ap (λ (s : ℕ). entry_at s e.change) (sym sid)

    clashes_none : (n : ℕ) (e : Entry) → slice_get x.entries n ≡ Some e → AreBefore rule c e
        → clash_with rule y.key_cols n e 0 y.entries ≡ None
    clashes_none n e at before =
        let size = none_there c.passed c.tree.now.entries past in
        let none = none_left c.passed y.entries (subst (λ (t : Tree). length t.entries ≤ c.passed) tree size) in
        clash_is rule x y w n e c.passed at (split_at e before)
        ∙ ap (clash_with_first rule y.key_cols n e c.passed) none

    -- those from an index on move alike, and clash with none
    abbrev MoveAlike : ℕ → Type 0
    MoveAlike n =
        (first_clash_from rule y.key_cols n (drop n x.entries) y.entries ≡ None)
        × (rebased_entries y.key_cols y.entries (drop n x.entries) ≡ map (moved_by c.added c.gone) (drop n x.entries))

    none_left_alike : (n : ℕ) → length x.entries ≤ n → MoveAlike n
    none_left_alike n size = grind (arith, common_steps)

    pub rest : (m n : ℕ) → length x.entries ≤ n + m → ((e : Entry) → slice_get x.entries n ≡ Some e → AreBefore rule c e) → MoveAlike n
    rest zero n size ready = none_left_alike n (omega (arith, size))
    rest (suc m) n size ready = by (slice_get x.entries n) refl (rest m (n + 1) (omega (arith, size)))
      where
        by : (o : Option Entry) → slice_get x.entries n ≡ o
            → (((e : Entry) → slice_get x.entries (n + 1) ≡ Some e → AreBefore rule c e) → MoveAlike (n + 1)) → MoveAlike n
        by None is later = none_left_alike n (none_there n x.entries is)
        by (Some e) at later =
            let before = ready e at in
            let next = later (ready_for_next c n e tree at before) in
            let head = head_drop n x.entries e at in (
              clear_next rule y.key_cols n x.entries y.entries e at (clashes_none n e at before) ∙ next.0,
              ap (rebased_entries y.key_cols y.entries) head
                  ∙ (λ i. moves_alike e before i ∷ next.1 i)
                  ∙ sym (ap (map (moved_by c.added c.gone)) head),
            )
