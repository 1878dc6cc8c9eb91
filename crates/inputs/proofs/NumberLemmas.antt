-- Places beside the numbers that are their keys.
use Rattle.std.proofs.Common.{◌≡◌, ◌∙◌, ◌+◌, ◌-◌, ◌<◌, ℕ, true, false, List, [], ◌∷◌, length, map, get_or, Ordering, Less, Equal, Greater, is_lt, refl, sym, ap, arith}
use Rattle.std.specs.Cmp.{IsStrictWeakOrder}
use Rattle.std.specs.List.{All, range_with_len}
use Rattle.std.specs.List.Sorted.{IsPermutation, IsSorted}
use Rattle.std.specs.Ordering.{int_cmp, is_eq, nat_cmp, ordering_reverse, ordering_then}
use Rattle.std.proofs.lemmas.Cmp.{int_cmp_total, nat_cmp_total, on_total, then_total}
use Rattle.std.proofs.lemmas.List.{get_or-map, length-map, map-id}
use Rattle.std.proofs.lemmas.List.FromFn.{length-map-range_with_len, get_or-map-range_with_len}
use Rattle.std.proofs.lemmas.List.Sorted.{ranks_by, All-permutation, IsPermutation-map}
use Rattle.std.proofs.lemmas.Option.{slice_get-get_or}
use Rattle.std.proofs.lemmas.Simd.{map-map}
use Rattle.values.specs.Orders.{value_cmp, key_cmp}
use Rattle.values.specs.Shape.{key_of, has_type}
use Rattle.values.specs.declared.value.ColumnType.TheVariants as column
use Rattle.values.specs.declared.value.Value.{Value}
use Rattle.values.specs.declared.value.Value.TheVariants.{Int, Text, Bool as Truth}
use Rattle.blocks.specs.Column.{Column}
use Rattle.stable.specs.Column.{all_may_stand}
use Rattle.stable.specs.Rows.{cell_at, row_at}
use Rattle.stable.proofs.CallerLemmas.{stands_at}
use Rattle.inputs.specs.Filling.{keyed_at, keyed_cmp, number_cmp, number_or_zero, row_in, AreApart, AreDistinct, AreKeysApart}
use Rattle.inputs.specs.Input.{same_key}
use Rattle.inputs.specs.declared.ascent.Keyed.{Keyed}
use Rattle.inputs.proofs.AscentLemmas.{rows_at-get}

-- by the numbers alone
abbrev pub key_number_cmp : Keyed → Keyed → Ordering
key_number_cmp a b = int_cmp a.key b.key

pub keyed_cmp_weak : IsStrictWeakOrder (λ a b. is_lt (keyed_cmp a b))
keyed_cmp_weak =
    ranks_by (then_total (on_total (λ (k : Keyed). k.key) int_cmp_total) (on_total (λ (k : Keyed). k.place) nat_cmp_total))
    (λ (k : Keyed). k)

pub key_number_cmp_weak : IsStrictWeakOrder (λ a b. is_lt (key_number_cmp a b))
key_number_cmp_weak = ranks_by (on_total (λ (k : Keyed). k.key) int_cmp_total) (λ (k : Keyed). k)

then-false : (o p q : Ordering) → p ≡ ordering_reverse o → is_lt o ≡ false → is_eq p ≡ false → is_lt (ordering_then o q) ≡ false
then-false Less p q e h g = cc h
then-false Equal p q e h g = cc (rw e at g)
then-false Greater p q e h g = refl

-- where no two have one number, their order is that of the numbers
pub keys-sorted : (keyed : List Keyed) → IsSorted key_number_cmp keyed → AreKeysApart keyed → IsSorted keyed_cmp keyed
keys-sorted keyed up apart j d low lt =
    let a = get_or keyed j d in
    let b = get_or keyed (j + 1) d in
    then-false (int_cmp b.key a.key) (int_cmp a.key b.key) (nat_cmp b.place a.place) (int_cmp_total.antisymm a.key b.key)
    (up j d low lt) (apart j d lt)

-- a value of a column of numbers is its number
is_number : (v : Value) → has_type column.Int v ≡ true → v ≡ Int (number_or_zero v)
is_number (Int n) h = refl
is_number (Text t) h = cc h
is_number (Truth b) h = cc h

then_Equal : (o : Ordering) → ordering_then o Equal ≡ o
then_Equal Less = refl
then_Equal Equal = refl
then_Equal Greater = refl

module _ (c : Column) (count : ℕ) (int : c.ty ≡ column.Int) (filled : length c.values ≡ count) (fit : all_may_stand c.ty c.values) where
  cell-number : (p : ℕ) → p < count → cell_at p c ≡ Int (number_or_zero (cell_at p c))
  cell-number p lt =
      let v = cell_at p c in
      let there = slice_get-get_or c.values p (Truth false) (omega (arith, lt, filled)) in
      is_number v (ap (λ ty. has_type ty v) (sym int) ∙ (stands_at c.ty c.values p v there fit).0)

  compared : (a b : ℕ) → a < count → b < count → number_cmp c a b ≡ keyed_cmp (keyed_at c a) (keyed_at c b)
  compared a b la lb = (λ i. ordering_then (value_cmp (cell-number a la i) (cell-number b lb i)) (nat_cmp a b))

  module _ (keyed : List Keyed) (moved : IsPermutation (map (keyed_at c) (range_with_len 0 count)) keyed) where
    abbrev IsOf : Keyed → Type 0
    IsOf k = (k ≡ keyed_at c k.place) × (k.place < count)

    all-of : All IsOf keyed
    all-of = All-permutation IsOf (map (keyed_at c) (range_with_len 0 count)) keyed moved (λ k d lt.
        let within : k < count = omega (arith, lt, length-map-range_with_len (keyed_at c) 0 count) in
        let is = get_or-map-range_with_len (keyed_at c) 0 count k k d within (omega arith) in
        (is ∙ ap (λ (x : Keyed). keyed_at c x.place) (sym is), omega (arith, within, ap (λ (x : Keyed). x.place) is)))

    pub places-sorted : IsSorted keyed_cmp keyed → IsSorted (number_cmp c) (map (λ k. k.place) keyed)
    places-sorted up j d low lt =
        let within : j + 1 < length keyed = omega (arith, lt, length-map keyed (λ (k : Keyed). k.place)) in
        let e : Keyed = keyed_at c 0 in
        let a = get_or keyed j e in
        let b = get_or keyed (j + 1) e in
        let is_a = all-of j e (omega (arith, within)) in
        let is_b = all-of (j + 1) e within in
        let at_a = get_or-map (λ (k : Keyed). k.place) keyed j e d (omega (arith, within)) in
        let at_b = get_or-map (λ (k : Keyed). k.place) keyed (j + 1) e d within in
        (λ i. is_lt (number_cmp c (at_b i) (at_a i)))
        ∙ ap is_lt (compared b.place a.place is_b.1 is_a.1)
        ∙ (λ i. is_lt (keyed_cmp (sym is_b.0 i) (sym is_a.0 i)))
        ∙ up j e low within

    pub apart-places : AreKeysApart keyed → AreApart c (map (λ k. k.place) keyed)
    apart-places apart j lt =
        let within : j + 1 < length keyed = omega (arith, lt, length-map keyed (λ (k : Keyed). k.place)) in
        let e : Keyed = keyed_at c 0 in
        let a = get_or keyed j e in
        let b = get_or keyed (j + 1) e in
        let is_a = all-of j e (omega (arith, within)) in
        let is_b = all-of (j + 1) e within in
        let at_a = get_or-map (λ (k : Keyed). k.place) keyed j e 0 (omega (arith, within)) in
        let at_b = get_or-map (λ (k : Keyed). k.place) keyed (j + 1) e 0 within in
        (λ i. is_eq (value_cmp (cell_at (at_a i) c) (cell_at (at_b i) c)))
        ∙ (λ i. is_eq (value_cmp (cell-number a.place is_a.1 i) (cell-number b.place is_b.1 i)))
        ∙ (λ i. is_eq (int_cmp (sym is_a.0 i).key (sym is_b.0 i).key))
        ∙ apart j e within

pub places-moved : (c : Column) (count : ℕ) (keyed : List Keyed) → IsPermutation (map (keyed_at c) (range_with_len 0 count)) keyed
    → IsPermutation (range_with_len 0 count) (map (λ k. k.place) keyed)
places-moved c count keyed moved =
    let places = λ (k : Keyed). k.place in
    let same = map-map places (keyed_at c) (range_with_len 0 count) ∙ map-id (range_with_len 0 count) in
    rw same at (IsPermutation-map places (map (keyed_at c) (range_with_len 0 count)) keyed moved)

-- ---- a key of one column

key-one : (columns : List Column) (p : ℕ) (d : Column) → 0 < length columns
    → key_of 1 (row_at columns p) ≡ cell_at p (get_or columns 0 d) ∷ []
key-one [] p d lt = absurd (omega (arith, lt))
key-one (c ∷ columns) p d lt = refl

same_key-one : (columns : List Column) (c : Column) (a b : ℕ) → 0 < length columns → c ≡ get_or columns 0 c
    → same_key 1 (row_in columns a) (row_in columns b) ≡ is_eq (value_cmp (cell_at a c) (cell_at b c))
same_key-one columns c a b lt is =
    (λ i. is_eq (key_cmp (key-one columns a c lt i) (key-one columns b c lt i)))
    ∙ (λ i. is_eq (key_cmp (cell_at a (sym is i) ∷ []) (cell_at b (sym is i) ∷ [])))
    ∙ ap is_eq (then_Equal (value_cmp (cell_at a c) (cell_at b c)))

pub distinct-one : (columns : List Column) (c : Column) (places : List ℕ) → 0 < length columns → c ≡ get_or columns 0 c
    → AreApart c places → AreDistinct 1 columns places
distinct-one columns c places lt is apart k d within =
    (λ i. same_key 1 (rows_at-get columns places k d (omega (arith, within)) i) (rows_at-get columns places (k + 1) d within i))
    ∙ same_key-one columns c (get_or places k 0) (get_or places (k + 1) 0) lt is
    ∙ apart k within
