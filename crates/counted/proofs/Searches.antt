-- What a search asks of each entry, and what its lead tells.
use Rattle.std.proofs.Common.{◌≡◌, ℕ, zero, suc, ◌+◌, ◌<◌, ◌≤◌, ◌^◌, true, false, Ordering, Less, Equal, Greater, List, [], ◌∷◌, ◌++◌}
use Rattle.std.proofs.Common.{length, take}
use Rattle.std.proofs.Common.{drop, get_or, int_cmp, is_gt, is_lt, refl, ap, sym, ◌∙◌, subst, arith, to_z, of_z, w64}
use Rattle.std.specs.Prelude.{ℤ, pos, ◌+ℤ◌, Some, slice_get}
use Rattle.std.specs.Ordering.{ordering_then}
use Rattle.std.proofs.lemmas.Int.{ints}
use Rattle.std.proofs.lemmas.Option.{get_or_from_slice_get}
use Rattle.model.specs.declared.entry.Entry.{Entry}
use Rattle.model.specs.declared.entry.Change.{Change}
use Rattle.counted.specs.declared.entry.Lead.{Lead}
use Rattle.counted.specs.declared.node.Child.{Child}
use Rattle.counted.specs.declared.search.Target.{Target}
use Rattle.counted.specs.declared.search.Target.TheVariants.{Sid, Rid}
use Rattle.counted.specs.Leads.{lead_of}
use Rattle.counted.specs.Search.{is_before, order, ArePlaced, IsNear, IsReached, IsUp, MayMeet}
use Rattle.counted.specs.Shapes.{items_of, all_items}
use Rattle.counted.specs.Sums.{total, weight_of}
use Rattle.counted.proofs.Places.{split_items, items_from}
use Rattle.counted.proofs.Totals.{total_within, weight_within}

-- ---- entries at places below 2^32

placed-right : (xs ys : List Entry) → ArePlaced (xs ++ ys) → ArePlaced ys
placed-right [] ys h = h
placed-right (x ∷ xs) ys h = placed-right xs ys h.1

placed-left : (xs ys : List Entry) → ArePlaced (xs ++ ys) → ArePlaced xs
placed-left [] ys h = tt
placed-left (x ∷ xs) ys h = (h.0, placed-left xs ys h.1)

pub placed_at : (xs : List Entry) (i : ℕ) (d : Entry) → i < length xs → ArePlaced xs → (get_or xs i d).sid < 2 ^ 32
placed_at [] i d lt h = absurd (omega arith)
placed_at (x ∷ xs) zero d lt h = h.0
placed_at (x ∷ xs) (suc i) d lt h = placed_at xs i d (omega arith) h.1

pub child_placed : (children : List Child) (i : ℕ) (d : Child) → i < length children → ArePlaced (all_items children)
    → ArePlaced (items_of (get_or children i d))
child_placed children i d lt placed =
    let all = placed-right (all_items (take i children)) (all_items (drop i children)) (subst ArePlaced (split_items i children) placed) in
    placed-left (items_of (get_or children i d)) (all_items (drop (i + 1) children)) (subst ArePlaced (items_from children i d lt) all)

pub lead_placed : (es : List Entry) (h : Lead) → 1 ≤ length es → ((e : Entry) → slice_get es 0 ≡ Some e → h ≡ lead_of e)
    → ArePlaced es → h.sid < 2 ^ 32
lead_placed [] h some is placed = absurd (omega arith)
lead_placed (e ∷ es) h some is placed = let same = ap (λ (x : Lead). x.sid) (is e refl) in omega (arith, placed.0)

-- ---- how far above the rows below an entry is

pub child_met : (t : Target) (children : List Child) (i : ℕ) (d : Child) → i < length children → MayMeet t (all_items children)
    → MayMeet t (items_of (get_or children i d))
child_met (Sid to) children i d lt met = tt
child_met (Rid to) children i d lt met = (met.0, child_placed children i d lt met.1)

-- behind some of the entries that are near
pub near_part : (xs whole : List Entry) (shift : ℤ) → length xs ≤ length whole → IsNear shift (length whole)
    → IsNear (total xs +ℤ shift) 0
near_part xs whole shift le near =
    let sum = total_within xs in
    record { above = omega (arith, ints, near.above, near.below); below = omega (arith, ints, near.above, near.below) }

pub reached : (t : Target) (es : List Entry) (sid : ℕ) (up z : ℤ) → MayMeet t es → (ArePlaced es → sid < 2 ^ 32) → IsUp t up z
    → IsNear z 0 → IsReached t sid up
reached (Sid to) es sid up z met small is near = tt
reached (Rid to) es sid up z met small is near = (met.0, small met.1, subst (λ (w : ℤ). IsNear w 0) (sym is) near)

-- so many rows more, where rows are asked for
pub up_more : (t : Target) (up r net a b shift : ℤ) → b ≡ a +ℤ net → r ≡ up +ℤ net → IsUp t up (a +ℤ shift) → IsUp t r (b +ℤ shift)
up_more (Sid to) up r net a b shift sum more is = tt
up_more (Rid to) up r net a b shift sum more is = omega (arith, ints)

up_order : (t : Target) (sid : ℕ) (up z : ℤ) → IsUp t up z → order t sid up ≡ order t sid z
up_order (Sid to) sid up z h = refl
up_order (Rid to) sid up z h = ap (λ (w : ℤ). int_cmp (pos to) (pos sid +ℤ w)) h

module _ (cmp : Change → Ordering) (t : Target) where
  pub before_up : (e x : Entry) (up z : ℤ) → e ≡ x → IsUp t up z → is_before cmp t x z ≡ is_before cmp t e up
  before_up e x up z same h =
      ap (λ (y : Entry). is_before cmp t y z) (sym same)
      ∙ ap (λ r. is_gt (ordering_then r (cmp e.change))) (sym (up_order t e.sid up z h))

  -- by how the target stands to its SID
  pub before_by : (e : Entry) (sid : ℕ) (up : ℤ) → sid ≡ e.sid
      → is_before cmp t e up ≡ is_gt (ordering_then (order t sid up) (cmp e.change))
  before_by e sid up same = ap (λ n. is_gt (ordering_then (order t n up) (cmp e.change))) (sym same)

pub past_then : (r s : Ordering) → is_gt r ≡ true → is_gt (ordering_then r s) ≡ true
past_then Less s h = h
past_then Equal s h = absurd cc
past_then Greater s h = h

pub short_then : (r s : Ordering) → is_lt r ≡ true → is_gt (ordering_then r s) ≡ false
short_then Less s h = refl
short_then Equal s h = absurd cc
short_then Greater s h = absurd cc

pub tied_then : (r s : Ordering) → is_gt r ≡ false → is_lt r ≡ false → is_gt (ordering_then r s) ≡ is_gt s
tied_then Less s h g = absurd cc
tied_then Equal s h g = refl
tied_then Greater s h g = absurd cc

-- ---- what the lead of an entry tells

pub lead_sid : (h : Lead) (e : Entry) → h ≡ lead_of e → h.sid ≡ e.sid
lead_sid h e is = ap (λ (x : Lead). x.sid) is

pub lead_weight : (h : Lead) (e : Entry) → h ≡ lead_of e → weight_of e.change ≡ to_z w64 (of_z w64 h.weight)
lead_weight h e is =
    let same = ap (λ (x : Lead). x.weight) is in
    let w = weight_within e.change in
    omega (arith, ints, w.above, w.below)

-- the first of these entries is one alone
pub first_one : (es : List Entry) (e x : Entry) → slice_get es 0 ≡ Some e → slice_get es 0 ≡ Some x → e ≡ x
first_one es e x a b = sym (get_or_from_slice_get es 0 e e a) ∙ get_or_from_slice_get es 0 x e b
