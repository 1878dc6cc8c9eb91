-- The changes of a list of entries in order, at the places that a search finds.
use Rattle.std.proofs.Common.{◌≡◌, ℕ, zero, suc, ◌+◌, ◌-◌, ◌<◌, ◌≤◌, Bool, true, false, cond, not, ◌&&◌, ◌||◌, T, Option, Some, None, is_some, List, [], ◌∷◌, ◌++◌, map, filter, length, take, drop, set, get_or, remove, nat_cmp, Ordering, Less, Equal, Greater, is_lt, is_eq, is_gt, refl, sym, ap, ◌∙◌, subst, arith, take-append-drop, drop-cons, length-take, inl, inr, rules}
use Rattle.std.specs.Prelude.{◌==◌, IsSomeAnd}
use Rattle.std.proofs.lemmas.Float.{T_from_true}
use Rattle.std.specs.Ordering.{ordering_then}
use Rattle.std.specs.List.{list_all, list_any}
use Rattle.std.proofs.lemmas.Bool.{cases_lt, eqb-true}
use Rattle.std.proofs.lemmas.List.{get_or-take, drop-drop, drop-take, drop_all}
use Rattle.std.proofs.lemmas.List.Elements.{filter-append}
use Rattle.values.specs.Orders.{key_cmp, key_cmp_total, key_cmp-IsAntisymmetric}
use Rattle.values.specs.Shape.{key_of}
use Rattle.values.specs.declared.row.Row.{Row}
use Rattle.values.specs.declared.row.Key.{Key}
use Rattle.values.specs.declared.value.Value.{Value}
use Rattle.model.specs.declared.entry.Entry.{Entry}
use Rattle.model.specs.declared.entry.Change.{Change}
use Rattle.model.specs.declared.entry.Change.TheVariants.{Ins, Del, Mod}
use Rattle.model.specs.Entries.{entry_at, is_delete, is_modify, change_cmp, entry_cmp, are_ordered}
use Rattle.model.specs.Edits.{put_entry, is_insert_of, change_with_cell, put_ins, put_del, put_mod, take_ins, set_ins}
use Rattle.model.proofs.CallerLemmas.{both, first, second, less, turn_less}
use Rattle.delta.specs.Search.{insert_cmp, base_cmp, modify_cmp, past_cmp, stands_before, IsSplit}
use Rattle.delta.specs.Lookups.{has_delete, row_of, is_insert_at, inserted_row}
use Rattle.delta.specs.Changes.{modifies_column, modify_count, has_cell}
use Rattle.delta.specs.Tree.{Tree}
use Rattle.delta.proofs.SearchLemmas.{is_true, greater, nat_cmp-greater, at_index}
use Rattle.delta.proofs.Words.{with_run}
use Rattle.std.proofs.lemmas.Grind.{common_steps}

-- ---- tests of lists

pub all_drop : {A : Type 0} (p : A → Bool) (n : ℕ) (xs : List A) → T (list_all p xs) → T (list_all p (drop n xs))
all_drop p zero xs h = h
all_drop p (suc n) [] h = tt
all_drop p (suc n) (x ∷ xs) h = all_drop p n xs (second (p x) _ h)

pub all_take : {A : Type 0} (p : A → Bool) (n : ℕ) (xs : List A) → T (list_all p xs) → T (list_all p (take n xs))
all_take p zero xs h = tt
all_take p (suc n) [] h = tt
all_take p (suc n) (x ∷ xs) h = both (p x) _ (first (p x) _ h) (all_take p n xs (second (p x) _ h))

pub all_from : {A : Type 0} (p q : A → Bool) → ((x : A) → T (p x) → T (q x)) → (xs : List A) → T (list_all p xs) → T (list_all q xs)
all_from p q f [] h = tt
all_from p q f (x ∷ xs) h = both (q x) _ (f x (first (p x) _ h)) (all_from p q f xs (second (p x) _ h))

pub all_both : {A : Type 0} (p q : A → Bool) (xs : List A) → T (list_all p xs) → T (list_all q xs) → T (list_all (λ x. p x && q x) xs)
all_both p q [] h g = tt
all_both p q (x ∷ xs) h g = grind (arith, common_steps, all_both p q xs (second (p x) _ h) (second (q x) _ g), both, first, second)

none_any : {A : Type 0} (p : A → Bool) (xs : List A) → list_any p xs ≡ false → T (list_all (λ x. not (p x)) xs)
none_any p [] h = tt
none_any p (x ∷ xs) h =
    elim (p x) as (λ b. (b || list_any p xs) ≡ false → T (not b && list_all (λ y. not (p y)) xs)) [
      | true ↦ λ g. cc
      | false ↦ λ g. none_any p xs g
    ] h

-- a filter that all pass keeps the list
pub filter_all : {A : Type 0} (p : A → Bool) (xs : List A) → T (list_all p xs) → filter p xs ≡ xs
filter_all p [] h = refl
filter_all p (x ∷ xs) h =
    elim (p x) as (λ b. T (b && list_all p xs) → cond b (x ∷ filter p xs) (filter p xs) ≡ x ∷ xs) [
      | true ↦ λ g. ap (λ ys. x ∷ ys) (filter_all p xs (second true (list_all p xs) g))
      | false ↦ λ g. absurd (first false (list_all p xs) g)
    ] h

-- and one that none passes leaves nothing
pub filter_none : {A : Type 0} (p : A → Bool) (xs : List A) → T (list_all (λ x. not (p x)) xs) → filter p xs ≡ []
filter_none p [] h = refl
filter_none p (x ∷ xs) h =
    elim (p x) as (λ b. T (not b && list_all (λ y. not (p y)) xs) → cond b (x ∷ filter p xs) (filter p xs) ≡ []) [
      | true ↦ λ g. absurd (first false (list_all (λ y. not (p y)) xs) g)
      | false ↦ λ g. filter_none p xs (second true (list_all (λ y. not (p y)) xs) g)
    ] h

-- ---- an entry put in at its place

-- a list is its first n, the k behind them, and the rest
module _ (es : List Entry) (n m k : ℕ) (sum : n + k ≡ m) where
  pub three_parts : take n es ++ (take k (drop n es) ++ drop m es) ≡ es
  three_parts =
      let behind : take k (drop n es) ++ drop m es ≡ drop n es =
      ap (λ ys. take k (drop n es) ++ ys) (ap (λ i. drop i es) (sym sum) ∙ sym (drop-drop k n es))
      ∙ take-append-drop k (drop n es) in
      ap (λ ys. take n es ++ ys) behind ∙ take-append-drop n es

  pub middle_part : drop n (take m es) ≡ take k (drop n es)
  middle_part = ap (λ i. drop n (take i es)) (sym sum) ∙ drop-take n k es

module _ (key_cols sid : ℕ) (change : Change) (cmp : Change → Ordering) (same : (c : Change) → cmp c ≡ change_cmp key_cols change c) where
  abbrev put : Entry
  put = entry_at sid change

  order_is : (x : Entry) → ordering_then (nat_cmp sid x.sid) (cmp x.change) ≡ entry_cmp key_cols put x
  order_is x = ap (ordering_then (nat_cmp sid x.sid)) (same x.change)

  put_entry-past : (xs ys : List Entry) → T (list_all (stands_before cmp sid) xs)
      → put_entry key_cols put (xs ++ ys) ≡ xs ++ put_entry key_cols put ys
  put_entry-past [] ys h = refl
  put_entry-past (x ∷ xs) ys h = grind (arith, common_steps, put_entry-past xs ys (second (stands_before cmp sid x) _ h), order_is, greater, first, second)

  -- how many of the entries tie with it, of which the first may be one
  abbrev pub tie_count : List Entry → ℕ
  tie_count [] = 0
  tie_count (y ∷ ys) = cond (is_eq (entry_cmp key_cols put y)) 1 0

  put_entry-before : (ys : List Entry) → T (list_all (λ y. not (stands_before cmp sid y)) ys)
      → put_entry key_cols put ys ≡ put ∷ drop (tie_count ys) ys
  put_entry-before [] h = refl
  put_entry-before (y ∷ ys) h = search rules

  pub put_entry-split : (es : List Entry) (n : ℕ) → IsSplit (stands_before cmp sid) es n
      → put_entry key_cols put es ≡ with_run es n (n + tie_count (drop n es)) put
  put_entry-split es n h =
      ap (put_entry key_cols put) (sym (take-append-drop n es))
      ∙ put_entry-past (take n es) (drop n es) h.before
      ∙ ap (λ zs. take n es ++ zs) (put_entry-before (drop n es) h.after ∙ ap (λ zs. put ∷ zs) (drop-drop (tie_count (drop n es)) n es))

-- an entry to read where a list has none
abbrev pub nothing : Entry
nothing = entry_at 0 (Del [])

pub set-split : (es : List Entry) (n : ℕ) (e : Entry) → n < length es → set es n e ≡ take n es ++ e ∷ drop (suc n) es
set-split [] n e lt = absurd (omega arith)
set-split (x ∷ es) zero e lt = refl
set-split (x ∷ es) (suc n) e lt = let short : n < length es = omega arith in ap (λ ys. x ∷ ys) (set-split es n e short)

-- whether an entry is no modify at the SID
abbrev pub is_kept : ℕ → Entry → Bool
is_kept sid e = not ((e.sid == sid) && is_modify e.change)

-- ---- which entries tie

is_eq-nat_cmp : (n m : ℕ) → is_eq (nat_cmp n m) ≡ (m == n)
is_eq-nat_cmp n m = search rules

module _ (key_cols sid : ℕ) where
  pub insert_cmp-same : (row : Row) (c : Change) → insert_cmp key_cols (key_of key_cols row) c ≡ change_cmp key_cols (Ins row) c
  insert_cmp-same row (Ins other) = refl
  insert_cmp-same row (Del key) = refl
  insert_cmp-same row (Mod col value) = refl

  pub base_cmp-same : (key : Key) (c : Change) → base_cmp c ≡ change_cmp key_cols (Del key) c
  base_cmp-same key (Ins other) = refl
  base_cmp-same key (Del other) = refl
  base_cmp-same key (Mod col value) = refl

  pub modify_cmp-same : (col : ℕ) (value : Value) (c : Change) → modify_cmp col c ≡ change_cmp key_cols (Mod col value) c
  modify_cmp-same col value (Ins other) = refl
  modify_cmp-same col value (Del other) = refl
  modify_cmp-same col value (Mod other w) = refl

  -- an entry ties where it stands at the SID and its change ties
  pub tie_is : (change : Change) (y : Entry)
      → is_eq (entry_cmp key_cols (entry_at sid change) y) ≡ (y.sid == sid) && is_eq (change_cmp key_cols change y.change)
  tie_is change y = search rules

  -- ---- inserts

  not_inserted_here : (key : Key) (here : Bool) (c : Change) (other : Option Row) (rest : Bool) → (is_some other ≡ false → T rest)
      → is_some (cond (here && is_insert_of key_cols key c) (row_of c) other) ≡ false
      → T (not (here && is_insert_of key_cols key c) && rest)
  not_inserted_here key false c other rest f h = both true rest tt (f h)
  not_inserted_here key true (Ins row) other rest f h = search rules
  not_inserted_here key true (Del k) other rest f h = both true rest tt (f h)
  not_inserted_here key true (Mod col value) other rest f h = both true rest tt (f h)

  pub not_inserted : (key : Key) (es : List Entry) → is_some (inserted_row key_cols sid key es) ≡ false
      → T (list_all (λ e. not (is_insert_at key_cols sid key e)) es)
  not_inserted key [] h = tt
  not_inserted key (e ∷ es) h = not_inserted_here key (e.sid == sid) e.change (inserted_row key_cols sid key es) _ (not_inserted key es) h

  pub insert_tie : (row : Row) (c : Change) → is_eq (change_cmp key_cols (Ins row) c) ≡ is_insert_of key_cols (key_of key_cols row) c
  insert_tie row (Ins other) = refl
  insert_tie row (Del key) = refl
  insert_tie row (Mod col value) = refl

  pub false_of : (b : Bool) → T (not b) → b ≡ false
  false_of true h = absurd h
  false_of false h = refl

  no_insert_ties : (row : Row) (n : ℕ) (ys : List Entry)
      → T (list_all (λ e. not (is_insert_at key_cols sid (key_of key_cols row) e)) ys)
      → n + tie_count key_cols sid (Ins row) (insert_cmp key_cols (key_of key_cols row)) (insert_cmp-same row) ys ≡ n
  no_insert_ties row n [] h = omega arith
  no_insert_ties row n (y ∷ ys) h = search rules

  -- an insert of a key that isn't there
  pub put_ins-split : (row : Row) (es : List Entry) (n : ℕ)
      → IsSplit (stands_before (insert_cmp key_cols (key_of key_cols row)) sid) es n
      → is_some (inserted_row key_cols sid (key_of key_cols row) es) ≡ false
      → put_ins key_cols sid row es ≡ with_run es n n (entry_at sid (Ins row))
  put_ins-split row es n h free =
      put_entry-split key_cols sid (Ins row) (insert_cmp key_cols (key_of key_cols row)) (insert_cmp-same row) es n h
      ∙ ap (λ m. with_run es n m (entry_at sid (Ins row)))
      (no_insert_ties row n (drop n es) (all_drop (λ e. not (is_insert_at key_cols sid (key_of key_cols row) e)) n es
      (not_inserted (key_of key_cols row) es free)))

  -- ---- modifies

  pub not_deleted : (es : List Entry) → has_delete sid es ≡ false → T (list_all (λ e. not ((e.sid == sid) && is_delete e.change)) es)
  not_deleted es h = none_any (λ e. (e.sid == sid) && is_delete e.change) es h

  pub modify_tie : (col : ℕ) (value : Value) (here : Bool) (c : Change) → T (not (here && is_delete c))
      → here && is_eq (change_cmp key_cols (Mod col value) c) ≡ here && modifies_column col c
  modify_tie col value true (Ins other) h = refl
  modify_tie col value true (Del key) h = absurd h
  modify_tie col value true (Mod other w) h = is_eq-nat_cmp col other
  modify_tie col value false c h = refl

  modify_ties : (col : ℕ) (value : Value) (ys : List Entry) → T (list_all (λ e. not ((e.sid == sid) && is_delete e.change)) ys)
      → tie_count key_cols sid (Mod col value) (modify_cmp col) (modify_cmp-same col value) ys ≡ modify_count sid col ys
  modify_ties col value [] h = refl
  modify_ties col value (y ∷ ys) h = search rules

  -- a modify, where no delete stands
  pub put_mod-split : (col : ℕ) (value : Value) (es : List Entry) (n : ℕ) → IsSplit (stands_before (modify_cmp col) sid) es n
      → has_delete sid es ≡ false
      → put_mod key_cols sid col value es ≡ with_run es n (n + modify_count sid col (drop n es)) (entry_at sid (Mod col value))
  put_mod-split col value es n h free =
      put_entry-split key_cols sid (Mod col value) (modify_cmp col) (modify_cmp-same col value) es n h
      ∙ ap (λ m. with_run es n (n + m) (entry_at sid (Mod col value)))
      (modify_ties col value (drop n es)
      (all_drop (λ e. not ((e.sid == sid) && is_delete e.change)) n es (not_deleted es free)))

  -- ---- deletes

  abbrev kept : Entry → Bool
  kept e = is_kept sid e

  kept_before : (x : Entry) → T (stands_before base_cmp sid x) → T (kept x)
  kept_before x h = search rules

  kept_past : (z : Entry) → T (not (stands_before past_cmp sid z)) → T (kept z)
  kept_past z h = search rules

  -- what stands at the SID, is no insert and no delete, is a modify
  not_kept : (y : Entry) → T (stands_before past_cmp sid y) → T (not (stands_before base_cmp sid y))
      → T (not ((y.sid == sid) && is_delete y.change)) → T (not (kept y))
  not_kept y p b d = search rules

  -- an entry before the base row's changes isn't past the SID
  pub base_is_past : (y : Entry) → T (stands_before base_cmp sid y) → T (stands_before past_cmp sid y)
  base_is_past y h = search rules

  not_base : (z : Entry) → T (not (stands_before past_cmp sid z)) → T (not (stands_before base_cmp sid z))
  not_base z h = search rules

  -- the base row's changes don't start past the SID
  pub base-le-past : (es : List Entry) (n m : ℕ) → IsSplit (stands_before base_cmp sid) es n
      → IsSplit (stands_before past_cmp sid) es m → n ≤ m
  base-le-past es n m h g =
      elim (cases_lt m n) [
        | inl lt ↦
            let short : m < length es = omega (arith, h.within) in
            let inside : m < length (take n es) = omega (arith, length-take n es, h.within) in
            let y = get_or es m nothing in
            let base : T (stands_before base_cmp sid y) =
            subst (λ x. T (stands_before base_cmp sid x)) (get_or-take n es m nothing lt)
            (at_index (stands_before base_cmp sid) (take n es) h.before m nothing inside) in
            let cut : T (list_all (λ e. not (stands_before past_cmp sid e)) (y ∷ drop (suc m) es)) =
            subst (λ ys. T (list_all (λ e. not (stands_before past_cmp sid e)) ys)) (drop-cons es m nothing short) g.after in
            absurd (clash (stands_before past_cmp sid y) (base_is_past y base) (first (not (stands_before past_cmp sid y)) _ cut))
        | inr le ↦ le
      ]
    where
      clash : (b : Bool) → T b → T (not b) → ⊥
      clash true h g = g
      clash false h g = h

  no_base_ties : (key : Key) (zs : List Entry) → T (list_all (λ e. not (stands_before past_cmp sid e)) zs)
      → drop (tie_count key_cols sid (Del key) base_cmp (base_cmp-same key) zs) zs ≡ zs
  no_base_ties key [] h = refl
  no_base_ties key (z ∷ zs) h = search rules

  -- without the modifies of the base row
  pub filter-kept : (es : List Entry) (n m : ℕ) → IsSplit (stands_before base_cmp sid) es n
      → IsSplit (stands_before past_cmp sid) es m → has_delete sid es ≡ false → filter (is_kept sid) es ≡ take n es ++ drop m es
  filter-kept es n m h g free =
      let k = m - n in
      let le = base-le-past es n m h g in
      let sum : n + k ≡ m = omega (arith, le) in
      let xs = take n es in
      let ms = take k (drop n es) in
      let zs = drop m es in
      let past : T (list_all (stands_before past_cmp sid) ms) =
      subst (λ ys. T (list_all (stands_before past_cmp sid) ys)) (middle_part es n m k sum)
      (all_drop (stands_before past_cmp sid) n (take m es) g.before) in
      let not_before : T (list_all (λ e. not (stands_before base_cmp sid e)) ms) =
      all_take (λ e. not (stands_before base_cmp sid e)) k (drop n es) h.after in
      let no_delete : T (list_all (λ e. not ((e.sid == sid) && is_delete e.change)) ms) =
      all_take (λ e. not ((e.sid == sid) && is_delete e.change)) k (drop n es)
      (all_drop (λ e. not ((e.sid == sid) && is_delete e.change)) n es (not_deleted es free)) in
      let keeps_xs = filter_all kept xs (all_from (stands_before base_cmp sid) kept kept_before xs h.before) in
      let keeps_zs = filter_all kept zs (all_from (λ e. not (stands_before past_cmp sid e)) kept kept_past zs g.after) in
      let drops_ms = filter_none kept ms (none_kept ms past not_before no_delete) in
      ap (filter kept) (sym (three_parts es n m k sum))
      ∙ filter-append kept xs (ms ++ zs)
      ∙ (λ i. keeps_xs i ++ filter-append kept ms zs i)
      ∙ (λ i. xs ++ (drops_ms i ++ keeps_zs i))
    where
      none_kept : (ys : List Entry) → T (list_all (stands_before past_cmp sid) ys)
          → T (list_all (λ e. not (stands_before base_cmp sid e)) ys)
          → T (list_all (λ e. not ((e.sid == sid) && is_delete e.change)) ys) → T (list_all (λ e. not (kept e)) ys)
      none_kept [] p b d = tt
      none_kept (y ∷ ys) p b d =
          both (not (kept y)) _
          (not_kept y (first (stands_before past_cmp sid y) _ p) (first (not (stands_before base_cmp sid y)) _ b)
          (first (not ((y.sid == sid) && is_delete y.change)) _ d))
          (none_kept ys (second (stands_before past_cmp sid y) _ p) (second (not (stands_before base_cmp sid y)) _ b)
          (second (not ((y.sid == sid) && is_delete y.change)) _ d))

  -- a delete, where none stands
  pub put_del-split : (key : Key) (es : List Entry) (n m : ℕ) → IsSplit (stands_before base_cmp sid) es n
      → IsSplit (stands_before past_cmp sid) es m → has_delete sid es ≡ false
      → put_del key_cols sid key es ≡ with_run es n m (entry_at sid (Del key))
  put_del-split key es n m h g free =
      let xs = take n es in
      let zs = drop m es in
      ap (put_entry key_cols (entry_at sid (Del key))) (filter-kept es n m h g free)
      ∙ put_entry-past key_cols sid (Del key) base_cmp (base_cmp-same key) xs zs h.before
      ∙ ap (λ ys. xs ++ ys)
      (put_entry-before key_cols sid (Del key) base_cmp (base_cmp-same key) zs
      (all_from (λ e. not (stands_before past_cmp sid e)) (λ e. not (stands_before base_cmp sid e)) not_base zs g.after)
      ∙ ap (λ ys. entry_at sid (Del key) ∷ ys) (no_base_ties key zs g.after))

  -- ---- an insert that is there

  module _ (key : Key) where
    abbrev matches : Entry → Bool
    matches e = is_insert_at key_cols sid key e

    abbrev before : Entry → Bool
    before e = stands_before (insert_cmp key_cols key) sid e

    pub not_match : (x : Entry) → T (before x) → T (not (matches x))
    not_match x h = search rules

    equal : (r : Ordering) → T (is_eq r) → r ≡ Equal
    equal Less p = absurd p
    equal Equal p = refl
    equal Greater p = absurd p

    smaller_key : (c d : Change) → change_cmp key_cols c d ≡ Less → T (is_insert_of key_cols key d) → insert_cmp key_cols key c ≡ Greater
    smaller_key (Ins r) (Ins row) b m =
        let same = key_cmp-IsAntisymmetric key (key_of key_cols row) (equal (key_cmp key (key_of key_cols row)) m) in
        turn_less key_cmp_total (key_of key_cols r) key (ap (key_cmp (key_of key_cols r)) same ∙ b)
    smaller_key (Del k) (Ins row) b m = cc
    smaller_key (Mod col value) (Ins row) b m = cc
    smaller_key c (Del k) b m = absurd m
    smaller_key c (Mod col value) b m = absurd m

    -- an entry before one that matches stands before the key
    before_match : (y z : Entry) → entry_cmp key_cols y z ≡ Less → T (matches z) → T (before y)
    before_match y z b m = grind (arith, common_steps, is_true, first, eqb-true, second, nat_cmp, is_gt, nat_cmp-greater, smaller_key)

    pub none_after : (y : Entry) (zs : List Entry) → T (not (before y)) → T (list_all (λ z. is_lt (entry_cmp key_cols y z)) zs)
        → T (list_all (λ z. not (matches z)) zs)
    none_after y [] h g = tt
    none_after y (z ∷ zs) h g = grind (arith, common_steps, none_after y zs h (second (is_lt (entry_cmp key_cols y z)) _ g), both, before_match, less, first, second)

    skipped : (x : Entry) (es : List Entry) → T (not (matches x))
        → inserted_row key_cols sid key (x ∷ es) ≡ inserted_row key_cols sid key es
    skipped x es h = ap (λ b. cond b (row_of x.change) (inserted_row key_cols sid key es)) (false_of (matches x) h)

    pub all_skipped : (xs es : List Entry) → T (list_all (λ x. not (matches x)) xs)
        → inserted_row key_cols sid key (xs ++ es) ≡ inserted_row key_cols sid key es
    all_skipped [] es h = refl
    all_skipped (x ∷ xs) es h = skipped x (xs ++ es) (first (not (matches x)) _ h) ∙ all_skipped xs es (second (not (matches x)) _ h)

    pub none_inserted : (es : List Entry) → T (list_all (λ x. not (matches x)) es) → inserted_row key_cols sid key es ≡ None
    none_inserted [] h = refl
    none_inserted (e ∷ es) h = skipped e es (first (not (matches e)) _ h) ∙ none_inserted es (second (not (matches e)) _ h)

    -- the first entry that doesn't stand before the key matches
    first_matches : (y : Entry) (zs : List Entry) → T (not (before y)) → T (list_all (λ z. is_lt (entry_cmp key_cols y z)) zs)
        → is_some (inserted_row key_cols sid key (y ∷ zs)) ≡ true → T (matches y)
    first_matches y zs h g some = grind (arith, common_steps, none_inserted, none_after)

    pub ordered_drop : (n : ℕ) (es : List Entry) → T (are_ordered key_cols es) → T (are_ordered key_cols (drop n es))
    ordered_drop zero es h = h
    ordered_drop (suc n) [] h = tt
    ordered_drop (suc n) (e ∷ es) h = ordered_drop n es (second (list_all (λ y. is_lt (entry_cmp key_cols e y)) es) _ h)

    filter_but_one : (xs zs : List Entry) (y : Entry) → T (list_all (λ x. not (matches x)) xs) → T (matches y)
        → T (list_all (λ x. not (matches x)) zs) → filter (λ e. not (matches e)) (xs ++ y ∷ zs) ≡ xs ++ zs
    filter_but_one xs zs y h m g =
        filter-append (λ e. not (matches e)) xs (y ∷ zs)
        ∙ (λ i. filter_all (λ e. not (matches e)) xs h i ++ gone i)
      where
        gone : filter (λ e. not (matches e)) (y ∷ zs) ≡ zs
        gone = by (matches y) m ∙ filter_all (λ e. not (matches e)) zs g
          where
            by : (b : Bool) → T b → cond (not b) (y ∷ filter (λ e. not (matches e)) zs) (filter (λ e. not (matches e)) zs)
                ≡ filter (λ e. not (matches e)) zs
            by true t = refl
            by false t = absurd t

    map_others : (f : Entry → Entry) (xs : List Entry) → T (list_all (λ x. not (matches x)) xs)
        → map (λ e. cond (matches e) (f e) e) xs ≡ xs
    map_others f [] h = refl
    map_others f (x ∷ xs) h = grind (arith, common_steps, map_others f xs (second (not (matches x)) _ h), false_of, first, second)

    map_one : (f : Entry → Entry) (xs zs : List Entry) (y : Entry) → T (list_all (λ x. not (matches x)) xs) → T (matches y)
        → T (list_all (λ x. not (matches x)) zs) → map (λ e. cond (matches e) (f e) e) (xs ++ y ∷ zs) ≡ xs ++ f y ∷ zs
    map_one f [] zs y h m g = grind (arith, common_steps, is_true, map_others)
    map_one f (x ∷ xs) zs y h m g = grind (arith, common_steps, map_one f xs zs y (second (not (matches x)) _ h) m g, false_of, first, second)

    -- what the place of an insert that is there has
    pub record HasInsert (es : List Entry) (n : ℕ) : Type 0 where
      pub short : n < length es
      pub there : T (matches (get_or es n nothing))
      pub row_is : inserted_row key_cols sid key es ≡ row_of (get_or es n nothing).change
      pub taken : take_ins key_cols sid key es ≡ remove es n
      pub with_cell : (col : ℕ) (value : Value) → set_ins key_cols sid key col value es
          ≡ set es n (entry_at (get_or es n nothing).sid (change_with_cell col value (get_or es n nothing).change))

    -- where a row of the key is inserted, its insert is at the place of one
    pub has_insert : (es : List Entry) (n : ℕ) → T (are_ordered key_cols es)
        → IsSplit (stands_before (insert_cmp key_cols key) sid) es n → is_some (inserted_row key_cols sid key es) ≡ true
        → HasInsert es n
    has_insert es n ordered h some =
        let xs = take n es in
        let y = get_or es n nothing in
        let zs = drop (suc n) es in
        let none_xs : T (list_all (λ x. not (matches x)) xs) = all_from before (λ x. not (matches x)) not_match xs h.before in
        let whole = ap (inserted_row key_cols sid key) (sym (take-append-drop n es)) ∙ all_skipped xs (drop n es) none_xs in
        elim (cases_lt n (length es)) [
          | inl short ↦
              let cut = drop-cons es n nothing short in
              let order : T (are_ordered key_cols (y ∷ zs)) = subst (λ ys. T (are_ordered key_cols ys)) cut (ordered_drop n es ordered) in
              let after : T (list_all (λ e. not (before e)) (y ∷ zs)) = subst (λ ys. T (list_all (λ e. not (before e)) ys)) cut h.after in
              let found = whole ∙ ap (inserted_row key_cols sid key) cut in
              let not_before = first (not (before y)) (list_all (λ e. not (before e)) zs) after in
              let above = first (list_all (λ z. is_lt (entry_cmp key_cols y z)) zs) (are_ordered key_cols zs) order in
              let here = first_matches y zs not_before above (ap is_some (sym found) ∙ some) in
              let none_zs = none_after y zs not_before above in
              let parts : es ≡ xs ++ y ∷ zs = sym (take-append-drop n es) ∙ ap (λ ys. xs ++ ys) cut in
              record {
                short = short;
                there = here;
                row_is = found ∙ ap (λ b. cond b (row_of y.change) (inserted_row key_cols sid key zs)) (is_true (matches y) here);
                taken = ap (take_ins key_cols sid key) parts ∙ filter_but_one xs zs y none_xs here none_zs;
                with_cell = λ col value.
                    ap (set_ins key_cols sid key col value) parts
                    ∙ map_one (λ e. entry_at e.sid (change_with_cell col value e.change)) xs zs y none_xs here none_zs
                    ∙ sym (set-split es n (entry_at y.sid (change_with_cell col value y.change)) short);
              }
          | inr long ↦ let none = ap is_some (whole ∙ ap (inserted_row key_cols sid key) (drop_all n es long)) in cc
        ]

-- ---- the same in the words of a tree that is open

pub found_in : (k : ℕ) (es : List Entry) (t : Tree) (sid : ℕ) (cells key : Key) (n : ℕ)
    → ◌≡◌ {A = Tree} (record { key_cols = k; entries = es }) t → cells ≡ key → are_ordered k es ≡ true
    → IsSplit (stands_before (insert_cmp t.key_cols cells) sid) t.entries n
    → is_some (inserted_row t.key_cols sid key t.entries) ≡ true → HasInsert t.key_cols sid key t.entries n
found_in k es t sid cells key n view same ordered split some =
    has_insert t.key_cols sid key t.entries n
    (subst (λ (w : Tree). T (are_ordered w.key_cols w.entries)) view (T_from_true (are_ordered k es) ordered))
    (subst (λ (j : Key). IsSplit (stands_before (insert_cmp t.key_cols j) sid) t.entries n) same split)
    some

pub some_of : (o : Option Row) (P : Row → Type 0) → IsSomeAnd o P → is_some o ≡ true
some_of None P h = absurd h
some_of (Some row) P h = refl

pub cell_of : (col : ℕ) (c : Change) → IsSomeAnd (row_of c) (λ row. col < length row) → has_cell col c
cell_of col (Ins row) h = h
cell_of col (Del key) h = absurd h
cell_of col (Mod other value) h = absurd h
