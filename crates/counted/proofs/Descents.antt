-- How far a descent has come: the entries below a node, among those of the tree.
use Rattle.std.proofs.Common.{◌≡◌, ℕ, zero, suc, ◌+◌, ◌<◌, ◌≤◌, inl, inr, Bool, List, [], ◌∷◌, ◌++◌, length, take, drop, get_or}
use Rattle.std.proofs.Common.{to_z, of_z, w64, refl, ap, sym, ◌∙◌, subst, arith, append_assoc, length-append, length-take, length-drop}
use Rattle.std.proofs.Common.{true, false}
use Rattle.std.specs.Prelude.{ℤ, pos, ◌+ℤ◌, Option, None, slice_get}
use Rattle.std.specs.Option.{option_map}
use Rattle.std.proofs.lemmas.Int.{ints}
use Rattle.std.proofs.lemmas.Bool.{cases_lt}
use Rattle.std.proofs.lemmas.List.{append-nil, drop-drop, drop_all, take_all, take-append-le, drop-append-le}
use Rattle.std.proofs.lemmas.Option.{unwrap_or-slice_get, slice_get_past}
use Rattle.std.specs.Option.{unwrap_or}
use Rattle.model.specs.declared.entry.Entry.{Entry}
use Rattle.counted.specs.declared.entry.Lead.{Lead}
use Rattle.counted.specs.declared.node.Child.{Child}
use Rattle.counted.specs.declared.spot.Above.{Above}
use Rattle.counted.specs.Descents.{AreBelow, AreNext, IsAt}
use Rattle.counted.specs.Few.{IsFew}
use Rattle.counted.specs.Leads.{lead_of, lead_at}
use Rattle.counted.specs.Search.{Begins, IsChildPlace, IsNear, IsPlace}
use Rattle.counted.specs.Shapes.{items_of, all_items, AreChildren}
use Rattle.counted.specs.Sums.{total}
use Rattle.counted.proofs.Totals.{IsWithin, total_within, total-append}
use Rattle.counted.proofs.Places.{split_items, child_fits, child_some, count_within, drop_in_child, items-more}
use Rattle.counted.proofs.Leads.{get-past}

-- ---- entries that come next

take-more_by : (xs : List Entry) (n m : ℕ) → take (n + m) xs ≡ take n xs ++ take m (drop n xs)
take-more_by xs zero m = ap (λ k. take k xs) (let e : 0 + m ≡ m = omega arith in e)
take-more_by [] (suc n) zero = ap (λ k. take {A = Entry} k []) (let e : suc n + 0 ≡ suc n = omega arith in e)
take-more_by [] (suc n) (suc m) = ap (λ k. take {A = Entry} k []) (let e : suc n + suc m ≡ suc (n + suc m) = omega arith in e)
take-more_by (x ∷ xs) (suc n) m =
    ap (λ k. take k (x ∷ xs)) (let e : suc n + m ≡ suc (n + m) = omega arith in e) ∙ ap (λ ys. x ∷ ys) (take-more_by xs n m)

get-drop : (xs : List Entry) (n m : ℕ) → slice_get xs (n + m) ≡ slice_get (drop n xs) m
get-drop xs zero m = ap (slice_get xs) (let e : 0 + m ≡ m = omega arith in e)
get-drop [] (suc n) m = refl
get-drop (x ∷ xs) (suc n) m = ap (slice_get (x ∷ xs)) (let e : suc n + m ≡ suc (n + m) = omega arith in e) ∙ get-drop xs n m

pub get-left : (xs ys : List Entry) (m : ℕ) → m < length xs → slice_get (xs ++ ys) m ≡ slice_get xs m
get-left [] ys m lt = absurd (omega arith)
get-left (x ∷ xs) ys zero lt = refl
get-left (x ∷ xs) ys (suc m) lt = get-left xs ys m (omega arith)

pub next-next : (xs ys zs : List Entry) (n m : ℕ) → AreNext xs n ys → AreNext ys m zs → AreNext xs (n + m) zs
next-next xs ys zs n m a b =
    let outer = a.within in
    let inner = b.within in
    let tail = drop (n + length ys) xs in
    let one : drop (n + m) xs ≡ drop m ys ++ tail = sym (drop-drop m n xs) ∙ ap (drop m) a.rest ∙ drop-append-le m ys tail (omega arith) in
    let two : drop ((n + m) + length zs) xs ≡ drop (m + length zs) ys ++ tail =
    ap (λ k. drop k xs) (let e : (n + m) + length zs ≡ n + (m + length zs) = omega arith in e)
    ∙ sym (drop-drop (m + length zs) n xs) ∙ ap (drop (m + length zs)) a.rest ∙ drop-append-le (m + length zs) ys tail inner in
    record {
      within = omega arith;
      rest = one ∙ ap (λ es. es ++ tail) b.rest ∙ append_assoc zs (drop (m + length zs) ys) tail ∙ ap (λ es. zs ++ es) (sym two);
    }

pub sum-next : (xs ys : List Entry) (n m : ℕ) → AreNext xs n ys → m ≤ length ys
    → total (take (n + m) xs) ≡ total (take n xs) +ℤ total (take m ys)
sum-next xs ys n m a le =
    ap total (take-more_by xs n m ∙ ap (λ es. take n xs ++ take m es) a.rest
    ∙ ap (λ es. take n xs ++ es) (take-append-le m ys (drop (n + length ys) xs) le))
    ∙ total-append (take n xs) (take m ys)

pub get-next : (xs ys : List Entry) (n m : ℕ) → AreNext xs n ys → m < length ys → slice_get xs (n + m) ≡ slice_get ys m
get-next xs ys n m a lt = get-drop xs n m ∙ ap (λ es. slice_get es m) a.rest ∙ get-left ys (drop (n + length ys) xs) m lt

pub or-next : (xs ys : List Entry) (n m : ℕ) (d : Entry) → AreNext xs n ys → m < length ys → get_or xs (n + m) d ≡ get_or ys m d
or-next xs ys n m d a lt =
    sym (unwrap_or-slice_get xs (n + m) d) ∙ ap (λ o. unwrap_or o d) (get-next xs ys n m a lt) ∙ unwrap_or-slice_get ys m d

-- ---- below a child

child_next : (children : List Child) (i : ℕ) (d : Child) → i < length children
    → AreNext (all_items children) (length (all_items (take i children))) (items_of (get_or children i d))
child_next children i d lt =
    let fits = child_fits children i d lt in
    record {
      within = fits;
      rest =
          drop_in_child children i d (length (all_items (take i children))) 0 (length (items_of (get_or children i d)))
          (items_of (get_or children i d)) lt (omega arith) (omega arith)
          (sym (ap (λ es. items_of (get_or children i d) ++ es)
          (drop_all (0 + length (items_of (get_or children i d))) (items_of (get_or children i d)) (omega arith))
          ∙ append-nil _));
    }

-- the entry behind a child's is the first one from the next child on, or else the one behind all
child_behind : (children : List Child) (i : ℕ) (d : Child) → i < length children → i + 1 < length children
    → slice_get (all_items children) (length (all_items (take i children)) + length (items_of (get_or children i d))) ≡ slice_get
    (all_items (drop (i + 1) children)) 0
child_behind children i d lt more =
    let long = ap length (items-more children i d lt) ∙ length-append (all_items (take i children)) (items_of (get_or children i d)) in
    ap (λ es. slice_get es (length (all_items (take i children)) + length (items_of (get_or children i d)))) (split_items (i + 1) children)
    ∙ get-past (all_items (take (i + 1) children)) (all_items (drop (i + 1) children)) 0 _ (omega arith)

child_ends : (children : List Child) (i : ℕ) (d : Child) → i < length children → length children ≤ i + 1
    → length (all_items (take i children)) + length (items_of (get_or children i d)) ≡ length (all_items children)
child_ends children i d lt last =
    let long = ap length (items-more children i d lt) ∙ length-append (all_items (take i children)) (items_of (get_or children i d)) in
    let both = ap length (split_items (i + 1) children)
    ∙ length-append (all_items (take (i + 1) children)) (all_items (drop (i + 1) children)) in
    let none = ap (λ cs. length (all_items cs)) (drop_all (i + 1) children last) in
    omega arith

pub get_or_some : (children : List Child) (i : ℕ) → i < length children → Child
get_or_some [] i lt = absurd (omega arith)
get_or_some (c ∷ children) i lt = c

take-front : (children : List Child) (i : ℕ)
    → take (length (all_items (take i children))) (all_items children) ≡ all_items (take i children)
take-front children i =
    ap (take (length (all_items (take i children)))) (split_items i children)
    ∙ take-append-le (length (all_items (take i children))) (all_items (take i children)) (all_items (drop i children)) (omega arith)
    ∙ take_all (length (all_items (take i children))) (all_items (take i children)) (omega arith)

some_behind : (children : List Child) (i : ℕ) → AreChildren children → i < length children → 1 ≤ length (all_items (drop i children))
some_behind children i h lt =
    let d = get_or_some children i lt in
    let fits = child_fits children i d lt in
    let some = child_some _ _ (h.each i d lt) in
    let both = ap length (split_items i children) ∙ length-append (all_items (take i children)) (all_items (drop i children)) in
    omega arith

pub below_child : (items : List Entry) (index : ℕ) (shift : ℤ) (children : List Child) (next more : Option Lead) (i : ℕ) (d : Child)
    → AreChildren children → i < length children
    → AreBelow items index shift (all_items children) next
    → (i + 1 < length children → more ≡ lead_at (all_items (drop (i + 1) children)) 0)
    → (length children ≤ i + 1 → more ≡ next)
    → AreBelow items (index + length (all_items (take i children))) (shift +ℤ total (all_items (take i children)))
    (items_of (get_or children i d)) more
below_child items index shift children next more i d h lt b some last =
    let before = length (all_items (take i children)) in
    let here = items_of (get_or children i d) in
    let fits = child_fits children i d lt in
    let own = child_next children i d lt in
    record {
      here = next-next items (all_items children) here index before b.here own;
      sum =
          let both = sum-next items (all_items children) index before b.here (omega arith) in
          let front = ap total (take-front children i) in
          let sum = b.sum in
          omega (arith, ints);
      behind =
          elim (cases_lt (i + 1) (length children)) [
            | inl lt' ↦
                let rest = some_behind children (i + 1) h lt' in
                let both = ap length (split_items (i + 1) children)
                ∙ length-append (all_items (take (i + 1) children)) (all_items (drop (i + 1) children)) in
                let long = ap length (items-more children i d lt) ∙ length-append (all_items (take i children)) here in
                let short : before + length here < length (all_items children) = omega arith in
                some lt'
                ∙ ap (option_map lead_of) (sym (child_behind children i d lt lt')
                ∙ sym (get-next items (all_items children) index (before + length here) b.here short))
                ∙ ap (lead_at items) (let e : index + (before + length here) ≡ (index + before) + length here = omega arith in e)
            | inr le ↦
                let ends = child_ends children i d lt le in
                last le ∙ b.behind
                ∙ ap (lead_at items)
                (let e : index + length (all_items children) ≡ (index + before) + length here = omega arith in e)
          ];
    }

pub below_top : (items : List Entry) → AreBelow items 0 (pos 0) items None
below_top items = record {
  here = record {
    within = omega arith;
    rest = sym (ap (λ es. items ++ es) (drop_all (0 + length items) items (omega arith)) ∙ append-nil items);
  };
  sum = refl;
  behind = sym (ap (option_map lead_of) (slice_get_past items (0 + length items) (omega arith)));
}

pub below_spot : (items : List Entry) (index : ℕ) (shift : ℤ) (leaf : List Entry) (next lead : Option Lead) (at : ℕ)
    → at ≤ length leaf → AreBelow items index shift leaf next
    → (at < length leaf → lead ≡ lead_at leaf at) → (length leaf ≤ at → lead ≡ next)
    → IsAt items (index + at) (shift +ℤ total (take at leaf)) (drop at leaf) lead
below_spot items index shift leaf next lead at le b some last =
    let within = b.here.within in
    record {
      here = next-next items leaf (drop at leaf) index at b.here (record {
        within = omega (arith, length-drop at leaf);
        rest =
            sym (ap (λ es. drop at leaf ++ es) (drop_all (at + length (drop at leaf)) leaf (omega (arith, length-drop at leaf)))
            ∙ append-nil (drop at leaf));
      });
      sum = let both = sum-next items leaf index at b.here le in let sum = b.sum in omega (arith, ints);
      there =
          elim (cases_lt at (length leaf)) [
            | inl lt ↦ some lt ∙ ap (option_map lead_of) (sym (get-next items leaf index at b.here lt))
            | inr past ↦ last past ∙ b.behind ∙ ap (lead_at items) (let e : index + length leaf ≡ index + at = omega arith in e)
          ];
    }

pub below_moved : (items : List Entry) (index k : ℕ) (shift z : ℤ) (node es : List Entry) (next : Option Lead) → index ≡ k
    → shift ≡ z → node ≡ es → AreBelow items index shift node next → AreBelow items k z es next
below_moved items index k shift z node es next a b c h =
    subst (λ (n : ℕ). AreBelow items n z es next) a
    (subst (λ (w : ℤ). AreBelow items index w es next) b (subst (λ (xs : List Entry). AreBelow items index shift xs next) c h))

at_moved : (items : List Entry) (index k : ℕ) (shift z : ℤ) (leaf es : List Entry) (lead : Option Lead) → index ≡ k → shift ≡ z
    → leaf ≡ es → IsAt items index shift leaf lead → IsAt items k z es lead
at_moved items index k shift z leaf es lead a b c h =
    subst (λ (n : ℕ). IsAt items n z es lead) a
    (subst (λ (w : ℤ). IsAt items index w es lead) b (subst (λ (xs : List Entry). IsAt items index shift xs lead) c h))

-- where a search ends in a leaf whose entries are seen as these
pub spot_at : (items : List Entry) (index : ℕ) (shift : ℤ) (leaf es : List Entry) (next lead : Option Lead) (at k : ℕ) (z : ℤ)
    (some : List Entry) → at ≤ length es → AreBelow items index shift leaf next → es ≡ leaf
    → k ≡ index + at → z ≡ shift +ℤ total (take at es) → some ≡ drop at es → (at < length es → lead ≡ lead_at es at)
    → (length es ≤ at → lead ≡ next) → IsAt items k z some lead
spot_at items index shift leaf es next lead at k z some le b same a c d there past =
    at_moved _ _ _ _ _ _ _ _ (sym a) (sym c) (sym d)
    (below_spot items index shift es next lead at le (below_moved _ _ _ _ _ _ _ _ refl refl (sym same) b) there past)

pub below_within : (items : List Entry) (index : ℕ) (shift : ℤ) (node : List Entry) (next : Option Lead)
    → AreBelow items index shift node next → IsWithin shift index
below_within items index shift node next b =
    let w = total_within (take index items) in
    let here = b.here.within in
    let sum = b.sum in
    record { above = omega (arith, ints, length-take index items); below = omega (arith, ints, length-take index items) }

-- what the entries before a node add is a small number, where all are few
pub small : (items : List Entry) (index : ℕ) (shift : ℤ) (node : List Entry) (next : Option Lead) → AreBelow items index shift node next
    → IsFew (length items) → to_z w64 (of_z w64 shift) ≡ shift
small items index shift node next b few =
    let w = below_within items index shift node next b in
    let fits = b.here.within in
    omega (arith, ints, w.above, w.below)

-- and the entries below it are near
pub below_near : (items : List Entry) (index : ℕ) (shift : ℤ) (node es : List Entry) (next : Option Lead)
    → AreBelow items index shift node next → IsFew (length items) → es ≡ node → IsNear (to_z w64 (of_z w64 shift)) (length es)
below_near items index shift node es next b few same =
    let w = below_within items index shift node next b in
    let fits = b.here.within in
    let count = ap length same in
    record { above = omega (arith, ints, w.above, w.below); below = omega (arith, ints, w.above, w.below) }

-- ---- the place in all, from that in a leaf

-- the first of the entries below a node, if any stand before them, passes the test, and the one behind them, if there is one, does
-- not
pub record IsBetween (test : Entry → ℤ → Bool) (items : List Entry) (index : ℕ) (shift : ℤ) (node : List Entry) : Type 0 where
  pub some : 1 ≤ index → 1 ≤ length node
  pub low : (e : Entry) → 1 ≤ index → test (get_or node 0 e) shift ≡ true
  pub high : (e : Entry) → index + length node < length items
      → test (get_or items (index + length node) e) (total (take (index + length node) items)) ≡ false

module _ (test : Entry → ℤ → Bool) where
  moved : (b : Bool) (x y : Entry) (z w : ℤ) → x ≡ y → z ≡ w → test x z ≡ b → test y w ≡ b
  moved b x y z w same is h = sym (ap (λ (e : Entry). test e z) same ∙ ap (test y) is) ∙ h

  pub between_top : (items : List Entry) (shift : ℤ) → IsBetween test items 0 shift items
  between_top items shift = record {
    some = λ h. absurd (omega arith);
    low = λ e h. absurd (omega arith);
    high = λ e lt. absurd (omega arith);
  }

  -- before the root, a descent is at the first of all entries
  pub begun : (items : List Entry) (above : Above) → above ≡ record { index = 0; shift = pos 0; next = None }
      → AreBelow items above.index above.shift items above.next × IsBetween test items above.index above.shift items
  begun items above is =
      subst (λ (a : Above). AreBelow items a.index a.shift items a.next × IsBetween test items a.index a.shift items) (sym is)
      (below_top items, between_top items (pos 0))

  pub between_moved : (items : List Entry) (index k : ℕ) (shift z : ℤ) (node es : List Entry) → index ≡ k → shift ≡ z → node ≡ es
      → IsBetween test items index shift node → IsBetween test items k z es
  between_moved items index k shift z node es a b c h =
      subst (λ (n : ℕ). IsBetween test items n z es) a
      (subst (λ (w : ℤ). IsBetween test items index w es) b
      (subst (λ (xs : List Entry). IsBetween test items index shift xs) c h))

  module _ (items : List Entry) (index : ℕ) (shift : ℤ) (children : List Child) (i : ℕ) (d : Child) (h : AreChildren children)
      (lt : i < length children) (a : AreNext items index (all_items children)) (sum : shift ≡ total (take index items))
      (b : IsBetween test items index shift (all_items children)) where
    child_low : (1 ≤ i → Begins test shift children i true) → (e : Entry) → 1 ≤ index + length (all_items (take i children))
        → test (get_or (items_of (get_or children i d)) 0 e) (shift +ℤ total (all_items (take i children))) ≡ true
    child_low low e some =
        let here = items_of (get_or children i d) in
        elim (cases_lt 0 i) [
          | inl above ↦ moved true (get_or here 0 e) (get_or here 0 e) (total (all_items (take i children)) +ℤ shift)
              (shift +ℤ total (all_items (take i children))) refl (omega (arith, ints)) (low above d e)
          | inr first ↦
              let none : i ≡ 0 = omega arith in
              let empty : all_items (take i children) ≡ [] = ap (λ k. all_items (take k children)) none in
              let nothing = ap length empty in
              let adds = ap total empty in
              let own = child_next children i d lt in
              let nonempty = child_some _ _ (h.each i d lt) in
              let front = or-next (all_items children) here (length (all_items (take i children))) 0 e own nonempty in
              let at : length (all_items (take i children)) + 0 ≡ 0 = omega arith in
              let same : get_or (all_items children) 0 e ≡ get_or here 0 e = ap (λ k. get_or (all_items children) k e) (sym at) ∙ front in
              moved true (get_or (all_items children) 0 e) (get_or here 0 e) shift (shift +ℤ total (all_items (take i children))) same
              (omega (arith, ints)) (b.low e (omega arith))
        ]

    child_high : (i + 1 < length children → Begins test shift children (i + 1) false)
        → (e : Entry) → (k : ℕ) → k ≡ (index + length (all_items (take i children))) + length (items_of (get_or children i d))
        → k < length items → test (get_or items k e) (total (take k items)) ≡ false
    child_high high e k is short =
        let before = length (all_items (take i children)) in
        let here = items_of (get_or children i d) in
        let long = ap length (items-more children i d lt) ∙ length-append (all_items (take i children)) here in
        elim (cases_lt (i + 1) (length children)) [
          | inl more ↦
              let next = items_of (get_or children (i + 1) d) in
              let own = child_next children (i + 1) d more in
              let nonempty = child_some _ _ (h.each (i + 1) d more) in
              let all = next-next items (all_items children) next index (length (all_items (take (i + 1) children))) a own in
              let at : (index + length (all_items (take (i + 1) children))) + 0 ≡ k = omega arith in
              let item : get_or next 0 e ≡ get_or items k e = sym
              (or-next items next (index + length (all_items (take (i + 1) children))) 0 e all nonempty)
              ∙ ap (λ n. get_or items n e) at in
              let adds = sum-next items (all_items children) index (length (all_items (take (i + 1) children))) a
              (count_within children (i + 1)) in
              let front = ap total (take-front children (i + 1)) in
              let at' : index + length (all_items (take (i + 1) children)) ≡ k = omega arith in
              let to = ap (λ n. total (take n items)) at' in
              moved false (get_or next 0 e) (get_or items k e) (total (all_items (take (i + 1) children)) +ℤ shift)
              (total (take k items)) item (omega (arith, ints)) (high more d e)
          | inr none ↦
              let ends = child_ends children i d lt none in
              let at : index + length (all_items children) ≡ k = omega arith in
              let P : ℕ → Type 0 = λ n. test (get_or items n e) (total (take n items)) ≡ false in
              subst P at (b.high e (omega arith))
        ]

    pub between_child : IsChildPlace test shift children i
        → IsBetween test items (index + length (all_items (take i children))) (shift +ℤ total (all_items (take i children)))
        (items_of (get_or children i d))
    between_child at = record {
      some = λ some. child_some _ _ (h.each i d lt);
      low = child_low at.low;
      high = λ e short. child_high at.high e _ refl short;
    }

  module _ (items : List Entry) (index : ℕ) (shift : ℤ) (node : List Entry) (a : AreNext items index node)
      (sum : shift ≡ total (take index items)) (t : IsBetween test items index shift node) where
    place_high : (at : ℕ) (d : Entry) → IsPlace test shift node at → (k : ℕ) → k ≡ index + at → k < length items
        → test (get_or items k d) (total (take k items) +ℤ pos 0) ≡ false
    place_high at d g k is lt =
        let inner = g.within in
        elim (cases_lt at (length node)) [
          | inl here ↦
              let both = sum-next items node index at a inner in
              let item : get_or node at d ≡ get_or items k d = sym (or-next items node index at d a here)
              ∙ ap (λ n. get_or items n d) (sym is) in
              let to = ap (λ n. total (take n items)) is in
              moved false (get_or node at d) (get_or items k d) (total (take at node) +ℤ shift) (total (take k items) +ℤ pos 0) item
              (omega (arith, ints)) (g.high d here)
          | inr past ↦
              let e : index + length node ≡ k = omega arith in
              let P : ℕ → Type 0 = λ n. test (get_or items n d) (total (take n items)) ≡ false in
              moved false (get_or items k d) (get_or items k d) (total (take k items)) (total (take k items) +ℤ pos 0) refl
              (omega (arith, ints)) (subst P e (t.high d (omega arith)))
        ]

    place_low : (at m : ℕ) (d : Entry) → IsPlace test shift node at → m + 1 ≡ index + at
        → test (get_or items m d) (total (take m items) +ℤ pos 0) ≡ true
    place_low zero m d g is =
        let some = t.some (omega arith) in
        let first = get_or node 0 d in
        let high = moved false first first (pos 0 +ℤ shift) shift refl (omega (arith, ints)) (g.high d (omega arith)) in
        let low = t.low d (omega arith) in absurd cc
    place_low (suc at) m d g is =
        let inner = g.within in
        let both = sum-next items node index at a (omega arith) in
        let e : index + at ≡ m = omega arith in
        let item : get_or node at d ≡ get_or items m d = sym (or-next items node index at d a (omega arith))
        ∙ ap (λ n. get_or items n d) e in
        let to = ap (λ n. total (take n items)) e in
        moved true (get_or node at d) (get_or items m d) (total (take at node) +ℤ shift) (total (take m items) +ℤ pos 0) item
        (omega (arith, ints)) (g.low at d (omega arith))

    pub place_below : (at : ℕ) → IsPlace test shift node at → IsPlace test (pos 0) items (index + at)
    place_below at g = record {
      within = let w = a.within in let inner = g.within in omega arith;
      low = λ m d is. place_low at m d g is;
      high = λ d lt. place_high at d g _ refl lt;
    }
