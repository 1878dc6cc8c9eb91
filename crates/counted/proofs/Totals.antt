-- Bounds and steps of what entries add up to.
use Rattle.std.proofs.Common.{Less, Equal, Greater, sym, zero, ◌≡◌, ℕ, suc, ◌+◌, ◌<◌, ◌≤◌, true, false, cond, List, [], ◌∷◌, ◌++◌}
use Rattle.std.proofs.Common.{length, take, get_or, refl, ap, arith, length-take}
use Rattle.std.specs.Prelude.{ℤ, pos, ◌+ℤ◌, ◌≤ℤ◌, ltb}
use Rattle.std.proofs.lemmas.Int.{ints}
use Rattle.std.proofs.lemmas.List.{take_more}
use Rattle.std.specs.List.{AllByRecursion}
use Rattle.model.specs.declared.entry.Entry.{Entry}
use Rattle.model.specs.declared.entry.Change.{Change}
use Rattle.model.specs.declared.entry.Change.TheVariants.{Ins, Del, Mod}
use Rattle.std.specs.Cmp.{ranked}
use Rattle.std.specs.Ordering.{nat_cmp, is_gt, ordering_then}
use Rattle.counted.specs.declared.search.Target.TheVariants.{Sid}
use Rattle.counted.specs.Search.{is_before, IsPlace}
use Rattle.counted.specs.Sums.{weight_of, total, shift_before, next_sid, IsOrdered}

-- a sum lies between the number of entries and its negation
pub record IsWithin (z : ℤ) (n : ℕ) : Type 0 where
  pub above : pos 0 ≤ℤ (z +ℤ pos n)
  pub below : z ≤ℤ pos n

pub weight_within : (w : Change) → IsWithin (weight_of w) 1
weight_within (Ins row) = record { above = omega (arith, ints); below = omega (arith, ints) }
weight_within (Del key) = record { above = omega (arith, ints); below = omega (arith, ints) }
weight_within (Mod col value) = record { above = omega (arith, ints); below = omega (arith, ints) }

pub next_sid-le : (sid : ℕ) (w : Change) → sid ≤ next_sid sid w
next_sid-le sid (Ins row) = omega arith
next_sid-le sid (Del key) = omega arith
next_sid-le sid (Mod col value) = omega arith

-- entries add no more than there are of them, and take away no more
pub total_within : (entries : List Entry) → IsWithin (total entries) (length entries)
total_within [] = record { above = omega (arith, ints); below = omega (arith, ints) }
total_within (e ∷ entries) =
    let here = weight_within e.change in
    let rest = total_within entries in
    record { above = omega (arith, ints); below = omega (arith, ints) }

pub total-append : (xs ys : List Entry) → total (xs ++ ys) ≡ total xs +ℤ total ys
total-append [] ys = omega (arith, ints)
total-append (e ∷ xs) ys = let rest = total-append xs ys in omega (arith, ints)

-- neither do those before a SID
pub shift_within : (sid : ℕ) (entries : List Entry) → IsWithin (shift_before sid entries) (length entries)
shift_within sid [] = record { above = omega (arith, ints); below = omega (arith, ints) }
shift_within sid (e ∷ entries) =
    let here = weight_within e.change in
    let rest = shift_within sid entries in
    elim (ltb e.sid sid) as (λ b. IsWithin (cond b (weight_of e.change) (pos 0) +ℤ shift_before sid entries) (suc (length entries))) [
      | true ↦ record { above = omega (arith, ints); below = omega (arith, ints) }
      | false ↦ record { above = omega (arith, ints); below = omega (arith, ints) }
    ]

ltb-from_lt : (m n : ℕ) → m < n → ltb m n ≡ true
ltb-from_lt m n h = grind arith

ltb-from_le : (m n : ℕ) → n ≤ m → ltb m n ≡ false
ltb-from_le m n h = grind arith

-- one entry more
pub total-more : (xs : List Entry) (i : ℕ) (d : Entry) (w : ℤ) → i < length xs → w ≡ weight_of (get_or xs i d).change
    → total (take (i + 1) xs) ≡ total (take i xs) +ℤ w
total-more xs i d w h e = rw (take_more xs i d h) (omega (arith, ints, total-append (take i xs) (get_or xs i d ∷ [])))

-- a sum over the entries so far stays within their number
pub total_take_within : (xs : List Entry) (i : ℕ) → IsWithin (total (take i xs)) (length xs)
total_take_within xs i =
    let w = total_within (take i xs) in
    record { above = omega (arith, ints, length-take i xs); below = omega (arith, ints, length-take i xs) }

-- ---- the order

-- all entries stand at or past the place
pub past : (sid : ℕ) (entries : List Entry) → AllByRecursion (λ x. sid ≤ x.sid) entries → shift_before sid entries ≡ pos 0
past sid [] h = refl
past sid (e ∷ entries) h =
    let rest = past sid entries h.1 in
    let e' = ap (λ b. cond b (weight_of e.change) (pos 0) +ℤ shift_before sid entries) (ltb-from_le e.sid sid h.0) in
    omega (arith, ints)

all_weaker : (low high : ℕ) (entries : List Entry) → low ≤ high → AllByRecursion (λ x. high ≤ x.sid) entries
    → AllByRecursion (λ x. low ≤ x.sid) entries
all_weaker low high [] le h = tt
all_weaker low high (e ∷ entries) le h = (omega (arith, h.0), all_weaker low high entries le h.1)

-- where the first of a run of entries stands
abbrev pub first_sid : List Entry → ℕ
first_sid [] = 0
first_sid (e ∷ entries) = e.sid

-- where the first of a run of entries stands at or past the place, none of them counts
pub past_first : (sid : ℕ) (entries : List Entry) → IsOrdered entries → sid ≤ first_sid entries → shift_before sid entries ≡ pos 0
past_first sid [] o le = refl
past_first sid (e ∷ entries) o le =
    past sid (e ∷ entries)
    (le, all_weaker sid (next_sid e.sid e.change) entries (let n = next_sid-le e.sid e.change in omega arith) o.0)

-- ---- what stands before all at a place

not_before : (sid n : ℕ) → is_gt (ordering_then (nat_cmp sid n) Less) ≡ false → sid ≤ n
not_before sid n is =
    elim (nat_cmp sid n) as (λ r. nat_cmp sid n ≡ r → is_gt (ordering_then r Less) ≡ false → sid ≤ n) [
      | Less ↦ λ q h. let lt : sid < n = ranked sid n Less (sym q) in omega arith
      | Equal ↦ λ q h. let e : sid ≡ n = ranked sid n Equal (sym q) in omega arith
      | Greater ↦ λ q h. absurd cc
    ] refl is

is_below : (sid n : ℕ) → is_gt (ordering_then (nat_cmp sid n) Less) ≡ true → n < sid
is_below sid n is =
    elim (nat_cmp sid n) as (λ r. nat_cmp sid n ≡ r → is_gt (ordering_then r Less) ≡ true → n < sid) [
      | Less ↦ λ q h. absurd cc
      | Equal ↦ λ q h. absurd cc
      | Greater ↦ λ q h. ranked sid n Greater (sym q)
    ] refl is

all-at : (low : ℕ) (es : List Entry) (m : ℕ) (d : Entry) → AllByRecursion (λ x. low ≤ x.sid) es → m < length es → low ≤ (get_or es m d).sid
all-at low [] m d h lt = absurd (omega arith)
all-at low (e ∷ es) zero d h lt = h.0
all-at low (e ∷ es) (suc m) d h lt = all-at low es m d h.1 (omega arith)

first_before : (sid : ℕ) (e : Entry) (es : List Entry) (n : ℕ) → IsOrdered (e ∷ es)
    → IsPlace (is_before (λ c. Less) (Sid sid)) (pos 0) (e ∷ es) (suc n) → e.sid < sid
first_before sid e es zero o b = is_below sid e.sid (b.low 0 e refl)
first_before sid e es (suc m) o b =
    let within = b.within in
    let there = all-at (next_sid e.sid e.change) es m e o.0 (omega arith) in
    let lt = is_below sid (get_or es m e).sid (b.low (suc m) e (omega arith)) in
    let n = next_sid-le e.sid e.change in
    omega arith

pub total-first : (sid : ℕ) (es : List Entry) (n : ℕ) → IsOrdered es → IsPlace (is_before (λ c. Less) (Sid sid)) (pos 0) es n
    → total (take n es) ≡ shift_before sid es
total-first sid [] zero o b = refl
total-first sid [] (suc n) o b = refl
total-first sid (e ∷ es) zero o b = sym (past_first sid (e ∷ es) o (not_before sid e.sid (b.high e (omega arith))))
total-first sid (e ∷ es) (suc n) o b =
    let within = b.within in
    let rest = total-first sid es n o.1 (record {
      within = omega arith;
      low = λ m d is. b.low (suc m) d (omega arith);
      high = λ d lt. b.high d (omega arith);
    }) in
    let here = first_before sid e es n o b in
    let e' = ap (λ c. cond c (weight_of e.change) (pos 0) +ℤ shift_before sid es) (ltb-from_lt e.sid sid here) in
    omega (arith, ints)
