-- What a search finds at a SID is all that stands there.
use Rattle.std.proofs.Common.{◌≡◌, ℕ, ◌<◌, ◌≤◌, Bool, true, false, cond, not, ◌||◌, T, None, List, [], ◌∷◌, ◌++◌, length, take, drop, is_lt, refl, sym, ap, ◌∙◌, arith, get_or, drop-cons, take-append-drop, rules}
use Rattle.std.specs.List.{list_all}
use Rattle.std.proofs.lemmas.List.{drop_all}
use Rattle.values.specs.declared.row.Key.{Key}
use Rattle.model.specs.declared.entry.Entry.{Entry}
use Rattle.model.specs.Entries.{entry_cmp, are_ordered}
use Rattle.model.proofs.CallerLemmas.{first, second}
use Rattle.delta.specs.Search.{insert_cmp, base_cmp, stands_before, IsSplit}
use Rattle.delta.specs.Lookups.{has_delete, inserted_row, is_insert_at, row_of}
use Rattle.delta.specs.Changes.{row_at, is_delete_at}
use Rattle.delta.proofs.ChangesLemmas.{all_from, not_match, none_after, all_skipped, none_inserted, ordered_drop}
use Rattle.std.proofs.lemmas.Grind.{common_steps}

-- the first entry that is left
abbrev pub head_of : {A : Type 0} → (Entry → A) → A → List Entry → A
head_of f none [] = none
head_of f none (y ∷ ys) = f y

module _ (key_cols sid : ℕ) where
  pub inserted_row-split : (key : Key) (es : List Entry) (n : ℕ) → T (are_ordered key_cols es)
      → IsSplit (stands_before (insert_cmp key_cols key) sid) es n
      → inserted_row key_cols sid key es ≡ head_of (row_at key_cols sid key) None (drop n es)
  inserted_row-split key es n ordered h =
      ap (inserted_row key_cols sid key) (sym (take-append-drop n es))
      ∙ all_skipped key_cols sid key (take n es) (drop n es)
      (all_from (stands_before (insert_cmp key_cols key) sid) (λ x. not (is_insert_at key_cols sid key x))
      (not_match key_cols sid key) (take n es) h.before)
      ∙ here (drop n es) (ordered_drop key_cols sid key n es ordered) h.after
    where
      here : (ys : List Entry) → T (are_ordered key_cols ys)
          → T (list_all (λ e. not (stands_before (insert_cmp key_cols key) sid e)) ys)
          → inserted_row key_cols sid key ys ≡ head_of (row_at key_cols sid key) None ys
      here [] o a = refl
      here (y ∷ ys) o a =
          ap (cond (is_insert_at key_cols sid key y) (row_of y.change))
          (none_inserted key_cols sid key ys
          (none_after key_cols sid key y ys (first (not (stands_before (insert_cmp key_cols key) sid y)) _ a)
          (first (list_all (λ z. is_lt (entry_cmp key_cols y z)) ys) (are_ordered key_cols ys) o)))

  -- what stands before the base row's changes is no delete of it
  no_delete : (x : Entry) → T (stands_before base_cmp sid x) → T (not (is_delete_at sid x))
  no_delete x h = search rules

  pub no_deletes : (xs : List Entry) → T (list_all (λ x. not (is_delete_at sid x)) xs) → has_delete sid xs ≡ false
  no_deletes [] h = refl
  no_deletes (x ∷ xs) h = grind (arith, common_steps, no_deletes xs (second (not (is_delete_at sid x)) (list_all (λ y. not (is_delete_at sid y)) xs) h), first, second)

  pub skip_deletes : (xs ys : List Entry) → T (list_all (λ x. not (is_delete_at sid x)) xs) → has_delete sid (xs ++ ys) ≡ has_delete sid ys
  skip_deletes [] ys h = refl
  skip_deletes (x ∷ xs) ys h = grind (arith, common_steps, skip_deletes xs ys (second (not (is_delete_at sid x)) (list_all (λ y. not (is_delete_at sid y)) xs) h), first, second)

  -- past an entry that is no delete of the row and stands before none of its changes, there is none
  after_no_delete : (y z : Entry) → T (not (stands_before base_cmp sid y)) → T (not (is_delete_at sid y))
      → T (is_lt (entry_cmp key_cols y z)) → T (not (is_delete_at sid z))
  after_no_delete y z b d lt = search rules

  pub has_delete-split : (es : List Entry) (n : ℕ) → T (are_ordered key_cols es) → IsSplit (stands_before base_cmp sid) es n
      → has_delete sid es ≡ head_of (is_delete_at sid) false (drop n es)
  has_delete-split es n ordered h =
      ap (has_delete sid) (sym (take-append-drop n es))
      ∙ skip_deletes (take n es) (drop n es)
      (all_from (stands_before base_cmp sid) (λ x. not (is_delete_at sid x)) no_delete (take n es) h.before)
      ∙ here (drop n es) (ordered_drop key_cols sid [] n es ordered) h.after
    where
      or_rest : (d rest : Bool) → (d ≡ false → rest ≡ false) → (d || rest) ≡ d
      or_rest true rest f = refl
      or_rest false rest f = f refl

      not_of : (d : Bool) → d ≡ false → T (not d)
      not_of true e = cc
      not_of false e = tt

      here : (ys : List Entry) → T (are_ordered key_cols ys) → T (list_all (λ e. not (stands_before base_cmp sid e)) ys)
          → has_delete sid ys ≡ head_of (is_delete_at sid) false ys
      here [] o a = refl
      here (y ∷ ys) o a =
          or_rest (is_delete_at sid y) (has_delete sid ys)
          (λ e. no_deletes ys
          (all_from (λ z. is_lt (entry_cmp key_cols y z)) (λ z. not (is_delete_at sid z))
          (λ z lt. after_no_delete y z
          (first (not (stands_before base_cmp sid y)) (list_all (λ x. not (stands_before base_cmp sid x)) ys) a)
          (not_of (is_delete_at sid y) e) lt)
          ys (first (list_all (λ z. is_lt (entry_cmp key_cols y z)) ys) (are_ordered key_cols ys) o)))

-- ---- the first entry that is left, by the place of the search

pub head_at : {A : Type 0} (f : Entry → A) (none : A) (xs es : List Entry) (n : ℕ) (x : Entry) → xs ≡ es → n < length xs
    → x ≡ get_or xs n x → f x ≡ head_of f none (drop n es)
head_at f none xs es n x same lt item =
    ap f item ∙ sym (ap (head_of f none) (drop-cons xs n x lt)) ∙ ap (λ (ys : List Entry). head_of f none (drop n ys)) same

pub head_none : {A : Type 0} (f : Entry → A) (none : A) (xs es : List Entry) (n : ℕ) → xs ≡ es → length xs ≤ n
    → none ≡ head_of f none (drop n es)
head_none f none xs es n same le = sym (ap (head_of f none) (drop_all n xs le)) ∙ ap (λ (ys : List Entry). head_of f none (drop n ys)) same
