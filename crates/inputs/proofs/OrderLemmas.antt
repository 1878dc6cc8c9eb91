-- Rows in order of key and record, and which of them repeats a key.
use Rattle.std.proofs.Common.{◌≡◌, ◌∙◌, ◌<◌, ◌≤◌, ◌+◌, ◌-◌, ◌⊎◌, ◌&&◌, ◌==◌, ℕ, zero, suc, Bool, true, false, cond, List, [], ◌∷◌, length, get_or, map, Option, Some, None, refl, sym, ap, arith, inl, inr, nat_lt, nat_le, Ordering, Less, Equal, Greater, is_lt}
use Rattle.std.specs.Prelude.{find}
use Rattle.std.specs.Cmp.{IsTotalOrder, IsStrictWeakOrder}
use Rattle.std.specs.List.{Contains, swap}
use Rattle.std.specs.List.Sorted.{IsPermutation}
use Rattle.std.specs.Ordering.{nat_cmp, ordering_then, ordering_reverse, is_eq}
use Rattle.std.proofs.lemmas.Bool.{cases_Bool, cases_lt, cases_eq, eq-eqb, ne_eqb}
use Rattle.std.proofs.lemmas.Bool.Decides.{nat_tests}
use Rattle.std.proofs.lemmas.Cmp.{nat_cmp_total, on_total, then_total, tied_back}
use Rattle.std.proofs.lemmas.List.{get_or-map, length-map}
use Rattle.std.proofs.lemmas.List.Edits.{Swapped, swapped_from_swap, length-swap}
use Rattle.std.proofs.lemmas.List.Elements.{Contains-get_or}
use Rattle.std.proofs.lemmas.List.Folds.{Any-from_list_any, list_any_at}
use Rattle.std.proofs.lemmas.List.Sorted.{ranks_by, sorted_far, IsPermutation-sym, IsPermutation-keeps, Contains-permutation, list_any-IsPermutation}
use Rattle.values.specs.Orders.{key_cmp, key_cmp_total}
use Rattle.values.specs.Shape.{key_of}
use Rattle.inputs.specs.Input.{same_key, is_repeat, first_repeat, IsAscending}
use Rattle.inputs.specs.Order.{AreNumbered, numbered_cmp, IsInOrder, IsLeastRepeat, lower_repeat}
use Rattle.inputs.specs.Input.{Numbered}
use Rattle.blocks.proofs.CallerLemmas.{both_held}

-- within a list the default says nothing
get-same : {X : Type 0} (xs : List X) (i : ℕ) (d e : X) → i < length xs → get_or xs i d ≡ get_or xs i e
get-same [] i d e h = absurd (omega (arith, h))
get-same (x ∷ xs) zero d e h = refl
get-same (x ∷ xs) (suc i) d e h = get-same xs i d e (omega (arith, h))

-- ---- orders

pub numbered_cmp_total : (k : ℕ) → IsTotalOrder (numbered_cmp k)
numbered_cmp_total k =
    then_total (on_total (λ (x : Numbered). key_of k x.row) key_cmp_total) (on_total (λ (x : Numbered). x.number) nat_cmp_total)

pub numbered_cmp_weak : (k : ℕ) → IsStrictWeakOrder (λ x y. is_lt (numbered_cmp k x y))
numbered_cmp_weak k = ranks_by (numbered_cmp_total k) (λ (x : Numbered). x)

then-not_less : (o p : Ordering) → is_lt (ordering_then o p) ≡ false → (o ≡ Less → ⊥) × (o ≡ Equal → is_lt p ≡ false)
then-not_less Less p h = cc h
then-not_less Equal p h = (λ e. cc e, λ e. h)
then-not_less Greater p h = (λ e. cc e, λ e. cc e)

number-not_less : (m n : ℕ) → is_lt (nat_cmp m n) ≡ false → n ≤ m
number-not_less m n h = elim (cases_lt m n) [
  | inl l ↦ let t : nat_lt m n ≡ true = grind (arith, nat_tests) in cc (rw t at h)
  | inr l ↦ l
]

-- neither way is less, so both are equal
tied : (o p : Ordering) → p ≡ ordering_reverse o → (o ≡ Less → ⊥) → (p ≡ Less → ⊥) → o ≡ Equal
tied Less p e h g = absurd (h refl)
tied Equal p e h g = refl
tied Greater p e h g = absurd (g e)

is_eq-Equal : (o : Ordering) → is_eq o ≡ true → o ≡ Equal
is_eq-Equal Less e = cc e
is_eq-Equal Equal e = refl
is_eq-Equal Greater e = cc e

above : (o p : Ordering) → p ≡ ordering_reverse o → (o ≡ Less → ⊥) → is_eq p ≡ false → p ≡ Less
above Less p e h g = absurd (h refl)
above Equal p e h g = cc (rw e at g)
above Greater p e h g = e

lt_from : (a b : ℕ) → nat_lt a b ≡ true → a < b
lt_from a b h = grind (arith, nat_tests)

lt_true : (a b : ℕ) → a < b → nat_lt a b ≡ true
lt_true a b h = grind (arith, nat_tests)

lt_from_le : (a b : ℕ) → a ≤ b → (a ≡ b → ⊥) → a < b
lt_from_le a b h ne = elim (cases_lt a b) [ inl l ↦ l | inr l ↦ absurd (ne (omega (arith, h, l))) ]

-- ---- numbers stay apart where rows are moved

abbrev AreApart : List Numbered → Type 0
AreApart rows =
    (i j : ℕ) (d : Numbered) → i < length rows → j < length rows → (i ≡ j → ⊥)
    → (get_or rows i d).number ≡ (get_or rows j d).number → ⊥

-- where the row at a place was before an exchange
abbrev moved_from : ℕ → ℕ → ℕ → ℕ
moved_from a b m = cond (m == a) b (cond (m == b) a m)

moved_from-at : (f g : ℕ → Numbered) (a b m : ℕ) → Swapped f g a b → g m ≡ f (moved_from a b m)
moved_from-at f g a b m s = elim (cases_eq m a) [
  | inl e ↦ rw (eq-eqb m a e, e) s.0
  | inr n ↦ elim (cases_eq m b) [
    | inl e ↦ rw (ne_eqb m a n, eq-eqb m b e, e) s.1
    | inr o ↦ rw (ne_eqb m a n, ne_eqb m b o) (s.2 m n o)
  ]
]

moved_from-below : (a b m n : ℕ) → a < n → b < n → m < n → moved_from a b m < n
moved_from-below a b m n ha hb hm = elim (cases_Bool (m == a)) [
  | inl e ↦ rw e hb
  | inr e ↦ elim (cases_Bool (m == b)) [ inl o ↦ rw (e, o) ha | inr o ↦ rw (e, o) hm ]
]

moved_from-apart : (a b i j : ℕ) → (i ≡ j → ⊥) → moved_from a b i ≡ moved_from a b j → ⊥
moved_from-apart a b i j h e = grind (arith, nat_tests)

apart-swap : (rows : List Numbered) (a b : ℕ) → a < length rows → b < length rows → AreApart rows → AreApart (swap rows a b)
apart-swap rows a b ha hb apart i j d hi hj ne same =
    let s = swapped_from_swap rows (swap rows a b) a b d ha hb refl in
    let li : i < length rows = omega (arith, length-swap rows a b) in
    let lj : j < length rows = omega (arith, length-swap rows a b) in
    let ei = moved_from-at (λ i. get_or rows i d) (λ i. get_or (swap rows a b) i d) a b i s in
    let ej = moved_from-at (λ i. get_or rows i d) (λ i. get_or (swap rows a b) i d) a b j s in
    apart (moved_from a b i) (moved_from a b j) d (moved_from-below a b i _ ha hb li) (moved_from-below a b j _ ha hb lj)
    (moved_from-apart a b i j ne)
    (sym (ap (λ (x : Numbered). x.number) ei) ∙ same ∙ ap (λ (x : Numbered). x.number) ej)

numbered-apart : (rows : List Numbered) → AreNumbered rows → AreApart rows
numbered-apart rows h i j d hi hj ne same = elim (cases_lt i j) [
  | inl l ↦ let up : (get_or rows i d).number < (get_or rows j d).number = h i j d l hj in absurd (omega (arith, up, same))
  | inr l ↦ let up : (get_or rows j d).number < (get_or rows i d).number =
      h j i d (omega (arith, ne)) hi in absurd (omega (arith, up, same))
]

sorted-apart : (rows sorted : List Numbered) → IsPermutation rows sorted → AreNumbered rows → AreApart sorted
sorted-apart rows sorted p h = IsPermutation-keeps rows AreApart (numbered-apart rows h) apart-swap sorted p

-- ---- repeats stand side by side

module _ (k : ℕ) (sorted : List Numbered) (up : IsInOrder k sorted) where
  -- a row does not stand before one that is less
  not_less : (i j : ℕ) (d : Numbered) → i ≤ j → j < length sorted
      → (key_cmp (key_of k (get_or sorted j d).row) (key_of k (get_or sorted i d).row) ≡ Less → ⊥)
      × (key_cmp (key_of k (get_or sorted j d).row) (key_of k (get_or sorted i d).row) ≡ Equal
      → (get_or sorted i d).number ≤ (get_or sorted j d).number)
  not_less i j d l h =
      let parts =
      then-not_less (key_cmp (key_of k (get_or sorted j d).row) (key_of k (get_or sorted i d).row))
      (nat_cmp (get_or sorted j d).number (get_or sorted i d).number)
      (sorted_far (λ x y. is_lt (numbered_cmp k x y)) (numbered_cmp_weak k) sorted up i j d l h) in
      (parts.0, λ e. number-not_less (get_or sorted j d).number (get_or sorted i d).number (parts.1 e))

  -- a later record of one key stands behind a row of that key
  repeat-adjacent : (i j : ℕ) (d : Numbered) → i < length sorted → j < length sorted
      → same_key k (get_or sorted i d) (get_or sorted j d) ≡ true → (get_or sorted i d).number < (get_or sorted j d).number
      → (1 ≤ j) × (same_key k (get_or sorted (j - 1) d) (get_or sorted j d) ≡ true)
  repeat-adjacent i j d hi hj same lower =
      let equal : key_cmp (key_of k (get_or sorted i d).row) (key_of k (get_or sorted j d).row) ≡ Equal = is_eq-Equal _ same in
      elim (cases_lt i j) [
        | inr l ↦ let le : (get_or sorted j d).number ≤ (get_or sorted i d).number =
            (not_less j i d l hi).1 equal in absurd (omega (arith, le, lower))
        | inl l ↦
            let near = (not_less i (j - 1) d (omega (arith, l)) (omega (arith, l, hj))).0 in
            let next = (not_less (j - 1) j d (omega (arith, l)) hj).0 in
            let moved =
            key_cmp_total.congr (key_of k (get_or sorted i d).row) (key_of k (get_or sorted j d).row)
            (key_of k (get_or sorted (j - 1) d).row) equal in
            let one =
            tied (key_cmp (key_of k (get_or sorted i d).row) (key_of k (get_or sorted (j - 1) d).row))
            (key_cmp (key_of k (get_or sorted (j - 1) d).row) (key_of k (get_or sorted i d).row))
            (key_cmp_total.antisymm (key_of k (get_or sorted (j - 1) d).row) (key_of k (get_or sorted i d).row))
            (λ e. next (sym moved ∙ e)) near in
            let other =
            tied_back key_cmp_total (key_of k (get_or sorted j d).row) (key_of k (get_or sorted (j - 1) d).row)
            (sym moved ∙ one) in
            let first : 1 ≤ j = omega (arith, l) in
            (first, ap is_eq other)
      ]

  -- a row that stands behind one of its key is of a later record
  adjacent-repeat : (j : ℕ) (d : Numbered) → AreApart sorted → j + 1 < length sorted
      → same_key k (get_or sorted j d) (get_or sorted (j + 1) d) ≡ true → is_repeat k sorted (get_or sorted (j + 1) d) ≡ true
  adjacent-repeat j d apart h same =
      let equal : key_cmp (key_of k (get_or sorted j d).row) (key_of k (get_or sorted (j + 1) d).row) ≡ Equal = is_eq-Equal _ same in
      let back = tied_back key_cmp_total (key_of k (get_or sorted j d).row) (key_of k (get_or sorted (j + 1) d).row) equal in
      let le = (not_less j (j + 1) d (omega arith) h).1 back in
      let here : j < length sorted = omega (arith, h) in
      let off : j ≡ j + 1 → ⊥ = λ e. absurd (omega (arith, e)) in
      let ne : (get_or sorted j d).number ≡ (get_or sorted (j + 1) d).number → ⊥ = apart j (j + 1) d here h off in
      let lower : (get_or sorted j d).number < (get_or sorted (j + 1) d).number = lt_from_le _ _ le ne in
      list_any_at (λ other. nat_lt other.number (get_or sorted (j + 1) d).number && same_key k other (get_or sorted (j + 1) d))
      sorted j d here
      (rw (lt_true _ _ lower, same) refl)

  -- where no neighbours have one key, the keys ascend
  pub ascends : IsLeastRepeat k sorted (length sorted) None → IsAscending k (map (λ row. row.row) sorted)
  ascends none j d h =
      let e : Numbered = record { number = 0; row = d } in
      let long : length (map (λ (row : Numbered). row.row) sorted) ≡ length sorted = length-map sorted (λ (row : Numbered). row.row) in
      let near : j + 1 < length sorted = omega (arith, h, long) in
      let first = get_or-map (λ (row : Numbered). row.row) sorted j e d (omega (arith, near)) in
      let second = get_or-map (λ (row : Numbered). row.row) sorted (j + 1) e d near in
      rw (first, second) (above (key_cmp (key_of k (get_or sorted (j + 1) e).row) (key_of k (get_or sorted j e).row))
      (key_cmp (key_of k (get_or sorted j e).row) (key_of k (get_or sorted (j + 1) e).row))
      (key_cmp_total.antisymm (key_of k (get_or sorted j e).row) (key_of k (get_or sorted (j + 1) e).row))
      (not_less j (j + 1) e (omega arith) near).0 (none j e near))

-- ---- the least repeat, row by row

module _ (k : ℕ) (rows : List Numbered) (i : ℕ) (before row : Numbered) (h : i + 1 < length rows)
    (at : before ≡ get_or rows i before) (next : row ≡ get_or rows (i + 1) row) where
  same_at : (d : Numbered) → same_key k (get_or rows i d) (get_or rows (i + 1) d) ≡ same_key k before row
  same_at d =
      let a : get_or rows i d ≡ before = get-same rows i d before (omega (arith, h)) ∙ sym at in
      let b : get_or rows (i + 1) d ≡ row = get-same rows (i + 1) d row h ∙ sym next in
      rw (a, b) refl

  number_at : (d : Numbered) → (get_or rows (i + 1) d).number ≡ row.number
  number_at d = ap (λ (x : Numbered). x.number) (get-same rows (i + 1) d row h ∙ sym next)

  here_or_below : (j : ℕ) → j + 1 < i + 1 + 1 → (j + 1 < i + 1) ⊎ (j ≡ i)
  here_or_below j l = elim (cases_lt (j + 1) (i + 1)) [ inl m ↦ inl m | inr m ↦ inr (omega (arith, l, m)) ]

  least-step : (same : Bool) (least : Option ℕ) → same_key k before row ≡ same → IsLeastRepeat k rows (i + 1) least
      → IsLeastRepeat k rows (i + 1 + 1) (lower_repeat same row.number least)
  least-step false None e so = λ j d l. elim (here_or_below j l) [
    | inl m ↦ so j d m
    | inr m ↦ rw m (same_at d ∙ e)
  ]
  least-step false (Some n) e so = (
    (so.0.0, omega (arith, so.0.1), so.0.2),
    λ j d l same. elim (here_or_below j l) [
      | inl m ↦ so.1 j d m same
      | inr m ↦ cc (sym (same_at d ∙ e) ∙ rw m at same)
    ],
  )
  least-step true None e so = (
    (i, omega arith, λ d. (same_at d ∙ e, number_at d)),
    λ j d l same. elim (here_or_below j l) [
      | inl m ↦ cc (sym (so j d m) ∙ same)
      | inr m ↦ let n = number_at d in rw m (omega (arith, n))
    ],
  )
  least-step true (Some n) e so = elim (cases_Bool (nat_le n row.number)) [
    | inl t ↦ let le : n ≤ row.number = grind (arith, nat_tests) in
        rw t (
          (so.0.0, omega (arith, so.0.1), so.0.2),
          λ j d l same. elim (here_or_below j l) [
            | inl m ↦ so.1 j d m same
            | inr m ↦ let a = number_at d in rw m (omega (arith, a, le))
          ],
        )
    | inr t ↦ let lt : row.number < n = grind (arith, nat_tests) in
        rw t (
          (i, omega arith, λ d. (same_at d ∙ e, number_at d)),
          λ j d l same. elim (here_or_below j l) [
            | inl m ↦ let a = so.1 j d m same in omega (arith, a, lt)
            | inr m ↦ let a = number_at d in rw m (omega (arith, a))
          ],
        )
  ]

  pub IsLeastRepeat-step : (least : Option ℕ) → IsLeastRepeat k rows (i + 1) least
      → IsLeastRepeat k rows (i + 1 + 1) (lower_repeat (same_key k before row) row.number least)
  IsLeastRepeat-step least so = least-step (same_key k before row) least refl so

-- one row repeats nothing
pub IsLeastRepeat-start : (k : ℕ) (rows : List Numbered) → IsLeastRepeat k rows (0 + 1) None
IsLeastRepeat-start k rows j d l = absurd (omega (arith, l))

pub IsLeastRepeat-end : (k : ℕ) (rows : List Numbered) (i : ℕ) (least : Option ℕ) → i ≤ length rows - 1 → length rows - 1 ≤ i
    → IsLeastRepeat k rows (i + 1) least → IsLeastRepeat k rows (length rows) least
IsLeastRepeat-end k [] i None l m so = λ j d h. absurd (omega (arith, h))
IsLeastRepeat-end k [] i (Some n) l m so = let b = so.0.1 in absurd (omega (arith, l, b))
IsLeastRepeat-end k (x ∷ rows) i least l m so = let e : i + 1 ≡ length (x ∷ rows) = omega (arith, l, m) in rw e at so

-- ---- the first repeat in the order of the records

find-none : {X : Type 0} (p : X → Bool) (xs : List X) → ((i : ℕ) (d : X) → i < length xs → p (get_or xs i d) ≡ false) → find p xs ≡ None
find-none p [] h = refl
find-none p (x ∷ xs) h = rw (h 0 x (omega arith)) (find-none p xs (λ i d l. h (suc i) d (omega (arith, l))))

-- the least number that passes is that of the first row that does
find-least : (p : Numbered → Bool) (rows : List Numbered) (number : ℕ) → AreNumbered rows
    → (i : ℕ) (d : Numbered) → i < length rows → p (get_or rows i d) ≡ true → (get_or rows i d).number ≡ number
    → ((j : ℕ) (d : Numbered) → j < length rows → p (get_or rows j d) ≡ true → number ≤ (get_or rows j d).number)
    → (row : Numbered) × (find p rows ≡ Some row) × (row.number ≡ number)
find-least p [] number h i d hi hp hn least = absurd (omega (arith, hi))
find-least p (x ∷ rows) number h zero d hi hp hn least = (x, rw hp refl, hn)
find-least p (x ∷ rows) number h (suc i) d hi hp hn least = elim (cases_Bool (p x)) [
  | inl e ↦ let le : number ≤ x.number = least 0 d (omega arith) e in
      let lt : x.number < (get_or rows i d).number = h 0 (suc i) d (omega arith) hi in
      absurd (omega (arith, le, lt, hn))
  | inr e ↦ let rest =
      find-least p rows number (λ a b c l m. h (suc a) (suc b) c (omega (arith, l)) (omega (arith, m))) i d (omega (arith, hi)) hp
      hn (λ j c l. least (suc j) c (omega (arith, l))) in
      (rest.0, rw e rest.1, rest.2)
]

module _ (k : ℕ) (rows sorted : List Numbered) (moved : IsPermutation rows sorted) (numbered : AreNumbered rows)
    (up : IsInOrder k sorted) where
  same_repeats : (row : Numbered) → is_repeat k rows row ≡ is_repeat k sorted row
  same_repeats row = list_any-IsPermutation (λ other. nat_lt other.number row.number && same_key k other row) rows sorted moved

  -- a record that repeats a key stands behind a row of that key
  repeat-behind : (row : Numbered) → Contains rows row → is_repeat k rows row ≡ true
      → (j : ℕ) × (j + 1 < length sorted) × ((d : Numbered) → (get_or sorted (j + 1) d ≡ row) × (same_key k (get_or sorted j d) row ≡ true))
  repeat-behind row here e =
      let there = Contains-permutation rows sorted row moved here in
      let other = Any-from_list_any (λ other. nat_lt other.number row.number && same_key k other row) sorted (sym (same_repeats row) ∙ e) in
      let tests = both_held (nat_lt other.1.number row.number) (same_key k other.1 row) other.4 in
      let lower : other.1.number < row.number = lt_from _ _ tests.0 in
      let at_other : (d : Numbered) → get_or sorted other.0 d ≡ other.1 = λ d. get-same sorted other.0 d other.1 other.2 ∙ other.3 in
      let at_row : (d : Numbered) → get_or sorted there.0 d ≡ row = λ d. get-same sorted there.0 d row there.1 ∙ there.2 in
      let near =
      repeat-adjacent k sorted up other.0 there.0 row other.2 there.1 (rw (at_other row, at_row row) tests.1)
      (rw (at_other row, at_row row) lower) in
      let first : 1 ≤ there.0 = near.0 in
      let back : there.0 - 1 + 1 ≡ there.0 = omega (arith, first) in (
        there.0 - 1,
        rw back there.1,
        λ d. (
          rw back (at_row d),
          rw (get-same sorted (there.0 - 1) d row (omega (arith, first, there.1))) (rw (at_row row) at near.1),
        ),
      )

  pub repeats-none : IsLeastRepeat k sorted (length sorted) None → first_repeat k rows ≡ None
  repeats-none none = find-none (is_repeat k rows) rows (λ i d l. elim (cases_Bool (is_repeat k rows (get_or rows i d))) [
    | inl e ↦ let behind = repeat-behind (get_or rows i d) (Contains-get_or rows i d l) e in
        let both = behind.2 d in
        cc (sym (rw both.0 at (none behind.0 d behind.1)) ∙ both.1)
    | inr e ↦ e
  ])

  pub repeats-least : (number : ℕ) → IsLeastRepeat k sorted (length sorted) (Some number)
      → (row : Numbered) × (first_repeat k rows ≡ Some row) × (row.number ≡ number)
  repeats-least number h =
      let d : Numbered = record { number = 0; row = [] } in
      let at = h.0.0 in
      let found = h.0.2 d in
      let row = get_or sorted (at + 1) d in
      let again = same_repeats row ∙ adjacent-repeat k sorted up at d (sorted-apart rows sorted moved numbered) h.0.1 found.0 in
      let here = Contains-permutation sorted rows row (IsPermutation-sym rows sorted moved) (Contains-get_or sorted (at + 1) d h.0.1) in
      find-least (is_repeat k rows) rows number numbered here.0 row here.1 (rw here.2 again)
      (ap (λ (x : Numbered). x.number) here.2 ∙ found.1)
      (λ j c l e. let behind = repeat-behind (get_or rows j c) (Contains-get_or rows j c l) e in
      let both = behind.2 c in
      let le = h.1 behind.0 c behind.1 (rw both.0 both.1) in
      rw both.0 at le)
