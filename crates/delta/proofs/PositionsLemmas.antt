-- The walk over entries in order ends at the one place with the position.
use Rattle.std.proofs.Common.{◌≡◌, inl, inr, ℕ, zero, suc, ◌+◌, ◌-◌, ◌<◌, ◌≤◌, Bool, true, false, cond, ◌&&◌, ◌||◌, T, Option, rules}
use Rattle.std.proofs.Common.{Some, None, List, [], ◌∷◌, filter, take, nat_cmp, Ordering, Less, Equal, Greater, is_lt, is_gt, refl}
use Rattle.std.proofs.Common.{sym, ap, ◌∙◌, arith}
use Rattle.std.specs.Prelude.{◌==◌, nat_lt, nat_le, slice_get}
use Rattle.std.specs.Ordering.{ordering_then}
use Rattle.std.specs.List.{list_all}
use Rattle.std.proofs.lemmas.Bool.{cases_lt}
use Rattle.std.proofs.lemmas.Bool.Decides.{nat_tests}
use Rattle.values.specs.declared.row.Key.{Key}
use Rattle.model.specs.declared.entry.Entry.{Entry}
use Rattle.model.specs.declared.entry.Change.{Change}
use Rattle.model.specs.declared.entry.Change.TheVariants.{Ins, Del, Mod}
use Rattle.model.specs.Entries.{is_insert, is_delete, change_cmp, entry_cmp, are_ordered}
use Rattle.model.specs.Places.{insert_count, delete_count}
use Rattle.model.proofs.CallerLemmas.{both, first, second}
use Rattle.delta.specs.declared.places.Place.{Place}
use Rattle.delta.specs.declared.places.Place.TheVariants.{Inserted, Base}
use Rattle.delta.specs.Search.{insert_cmp, stands_before, IsSplit, base_cmp}
use Rattle.delta.specs.Lookups.{has_delete}
use Rattle.delta.specs.Positions.{IsAtRid}
use Rattle.delta.proofs.CountLemmas.{insert_worth, delete_worth, insert_count-cons, delete_count-cons}
use Rattle.delta.proofs.ChangesLemmas.{all_from}
use Rattle.std.proofs.lemmas.Grind.{common_steps}

-- ---- entries whose SIDs ascend

-- the SIDs ascend from this one on, and past that of a delete
abbrev pub Ascends : ℕ → List Entry → Type 0
Ascends m [] = Unit {0}
Ascends m (e ∷ es) = (m ≤ e.sid) × Ascends (e.sid + delete_worth e.change) es

le_of : (a b : ℕ) → T (nat_le a b) → a ≤ b
le_of a b h = grind (arith, nat_tests)

zero_le : (es : List Entry) → T (list_all (λ y. nat_le 0 y.sid) es)
zero_le [] = tt
zero_le (e ∷ es) = grind (arith, common_steps, zero_le es, both, nat_tests)

-- what stands before another isn't at a greater SID
not_past : (s t : ℕ) (o : Ordering) → T (is_lt (ordering_then (nat_cmp s t) o)) → T (nat_le (s + 0) t)
not_past s t Less h = grind (arith, nat_tests)
not_past s t Equal h = grind (arith, nat_tests)
not_past s t Greater h = grind (arith, nat_tests)

module _ (key_cols : ℕ) where
  -- an entry stands before no other at a smaller SID, and a delete before none at its own
  step : (s t : ℕ) (c d : Change) → T (is_lt (ordering_then (nat_cmp s t) (change_cmp key_cols c d))) → T (nat_le (s + delete_worth c) t)
  step s t (Ins row) d h = not_past s t (change_cmp key_cols (Ins row) d) h
  step s t (Del key) (Ins row) h = grind (arith, nat_tests)
  step s t (Del key) (Del other) h = grind (arith, nat_tests)
  step s t (Del key) (Mod col value) h = grind (arith, nat_tests)
  step s t (Mod col value) d h = not_past s t (change_cmp key_cols (Mod col value) d) h

  ascends_from : (m : ℕ) (es : List Entry) → T (list_all (λ y. nat_le m y.sid) es) → T (are_ordered key_cols es) → Ascends m es
  ascends_from m [] a o = tt
  ascends_from m (e ∷ es) a o =
      let above = all_from (λ y. is_lt (entry_cmp key_cols e y)) (λ y. nat_le (e.sid + delete_worth e.change) y.sid)
      (λ y h. step e.sid y.sid e.change y.change h) es (first (list_all (λ y. is_lt (entry_cmp key_cols e y)) es) _ o) in (
        le_of m e.sid (first (nat_le m e.sid) _ a),
        ascends_from (e.sid + delete_worth e.change) es above
            (second (list_all (λ y. is_lt (entry_cmp key_cols e y)) es) _ o),
      )

  pub ascends : (es : List Entry) → T (are_ordered key_cols es) → Ascends 0 es
  ascends es o = ascends_from 0 es (zero_le es) o

-- ---- counts at and below a SID

pub insert_count-filter : (p : Entry → Bool) (e : Entry) (es : List Entry)
    → insert_count (filter p (e ∷ es)) ≡ cond (p e) (insert_worth e.change) 0 + insert_count (filter p es)
insert_count-filter p e es = search rules

pub delete_count-filter : (p : Entry → Bool) (e : Entry) (es : List Entry)
    → delete_count (filter p (e ∷ es)) ≡ cond (p e) (delete_worth e.change) 0 + delete_count (filter p es)
delete_count-filter p e es = search rules

-- the inserts up to a SID, and the deletes below it
abbrev pub ins_to : ℕ → List Entry → ℕ
ins_to s es = insert_count (filter (λ e. nat_le e.sid s) es)

abbrev pub del_below : ℕ → List Entry → ℕ
del_below s es = delete_count (filter (λ e. nat_lt e.sid s) es)

le_in : (x s w : ℕ) → x ≤ s → cond (nat_le x s) w 0 ≡ w
le_in x s w h = grind (arith, nat_tests)

le_out : (x s w : ℕ) → s < x → cond (nat_le x s) w 0 ≡ 0
le_out x s w h = grind (arith, nat_tests)

lt_in : (x s w : ℕ) → x < s → cond (nat_lt x s) w 0 ≡ w
lt_in x s w h = grind (arith, nat_tests)

lt_out : (x s w : ℕ) → s ≤ x → cond (nat_lt x s) w 0 ≡ 0
lt_out x s w h = grind (arith, nat_tests)

-- of a delete below or of none, it counts alike
lt_any : (x s w : ℕ) → x + w ≤ s → cond (nat_lt x s) w 0 ≡ w
lt_any x s zero h = grind (arith, nat_tests)
lt_any x s (suc w) h = grind (arith, nat_tests)

few : (c : Change) → delete_worth c ≤ 1
few (Ins row) = omega arith
few (Del key) = omega arith
few (Mod col value) = omega arith

no_inserts : (m s : ℕ) (es : List Entry) → Ascends m es → s < m → ins_to s es ≡ 0
no_inserts m s [] h lt = refl
no_inserts m s (e ∷ es) h lt =
    let above : s < e.sid = omega (arith, h.0) in
    let further : s < e.sid + delete_worth e.change = omega (arith, h.0) in
    omega (
      arith,
      insert_count-filter (λ x. nat_le x.sid s) e es,
      le_out e.sid s (insert_worth e.change) above,
      no_inserts
          (e.sid + delete_worth e.change) s es h.1 further,
    )

no_deletes_below : (m s : ℕ) (es : List Entry) → Ascends m es → s ≤ m → del_below s es ≡ 0
no_deletes_below m s [] h le = refl
no_deletes_below m s (e ∷ es) h le =
    let above : s ≤ e.sid = omega (arith, h.0) in
    let further : s ≤ e.sid + delete_worth e.change = omega (arith, h.0) in
    omega (
      arith,
      delete_count-filter (λ x. nat_lt x.sid s) e es,
      lt_out e.sid s (delete_worth e.change) above,
      no_deletes_below
          (e.sid + delete_worth e.change) s es h.1 further,
    )

-- ---- nothing falls below the first row

-- an empty list has no item
no_item : (x : Entry) → ◌≡◌ {A = Option Entry} None (Some x) → ⊥
no_item x e = cc

-- the deletes below a SID stand at SIDs of their own
del_below-le : (m s : ℕ) (es : List Entry) → Ascends m es → m ≤ s → del_below s es + m ≤ s
del_below-le m s [] h le = omega arith
del_below-le m s (e ∷ es) h le =
    elim (cases_lt e.sid s) [
      | inl lt ↦
          let further : e.sid + delete_worth e.change ≤ s = omega (arith, few e.change) in
          omega (
            arith,
            h.0,
            delete_count-filter (λ x. nat_lt x.sid s) e es,
            lt_in e.sid s (delete_worth e.change) lt,
            del_below-le
                (e.sid + delete_worth e.change) s es h.1 further,
          )
      | inr ge ↦
          let further : s ≤ e.sid + delete_worth e.change = omega (arith, ge) in
          omega (
            arith,
            delete_count-filter (λ x. nat_lt x.sid s) e es,
            lt_out e.sid s (delete_worth e.change) ge,
            no_deletes_below
                (e.sid + delete_worth e.change) s es h.1 further,
          )
    ]

-- and so do those before an entry
delete_count-take-le : (m j : ℕ) (es : List Entry) (x : Entry) → Ascends m es → slice_get es j ≡ Some x
    → delete_count (take j es) + m ≤ x.sid
delete_count-take-le m j [] x h is = absurd (no_item x is)
delete_count-take-le m zero (e ∷ es) x h is = search rules
delete_count-take-le m (suc j) (e ∷ es) x h is =
    omega (arith, h.0, delete_count-cons e (take j es), delete_count-take-le (e.sid + delete_worth e.change) j es x h.1 is)

-- ---- the walk

-- the place at the position, by a walk over the entries that are left. So many are passed, so many of them inserts, and
-- so many deletes
abbrev place_from : ℕ → ℕ → ℕ → ℕ → List Entry → Place
place_from rid passed inserts deletes [] = Base ((rid + deletes) - inserts)
place_from rid passed inserts deletes (e ∷ entries) =
    cond (nat_lt (rid + deletes) (e.sid + inserts)) (Base ((rid + deletes) - inserts))
    (cond (is_insert e.change && ((rid + deletes) == (e.sid + inserts))) (Inserted passed)
    (place_from rid (passed + 1) (cond (is_insert e.change) (inserts + 1) inserts) (cond (is_delete e.change) (deletes + 1) deletes)
    entries))

-- the walk passes an entry that stands at the position or before it, and isn't the insert there
passes_on : (rid p a d : ℕ) (e : Entry) (es : List Entry) → (e.sid + a) + insert_worth e.change ≤ rid + d
    → place_from rid p a d (e ∷ es) ≡ place_from rid (p + 1) (a + insert_worth e.change) (d + delete_worth e.change) es
passes_on rid p a d e es h = search rules

-- it ends before an entry that stands past the position
ends_before : (rid p a d : ℕ) (e : Entry) (es : List Entry) → rid + d < e.sid + a → place_from rid p a d (e ∷ es) ≡ Base ((rid + d) - a)
ends_before rid p a d e es lt = search rules

-- ---- the walk ends at each place with the position

walk-insert : (rid p a d m j : ℕ) (es : List Entry) (x : Entry) → Ascends m es → slice_get es j ≡ Some x → is_insert x.change ≡ true
    → (rid + d) + delete_count (take j es) ≡ (x.sid + a) + insert_count (take j es) → place_from rid p a d es ≡ Inserted (p + j)
walk-insert rid p a d m j [] x h is insert at = absurd (no_item x is)
walk-insert rid p a d m zero (e ∷ es) x h is insert at = search rules
walk-insert rid p a d m (suc j) (e ∷ es) x h is insert at =
    let ins = insert_count-cons e (take j es) in
    let del = delete_count-cons e (take j es) in
    let few_before = delete_count-take-le (e.sid + delete_worth e.change) j es x h.1 is in
    let passed : (e.sid + a) + insert_worth e.change ≤ rid + d = omega (arith, at, ins, del, few_before) in
    let next : (rid + (d + delete_worth e.change)) + delete_count (take j es) ≡ (x.sid + (a + insert_worth e.change)) + insert_count
    (take j es) = omega (arith, at, ins, del) in
    let index : (p + 1) + j ≡ p + suc j = omega arith in
    passes_on rid p a d e es passed
    ∙ walk-insert rid (p + 1) (a + insert_worth e.change) (d + delete_worth e.change)
    (e.sid + delete_worth e.change) j es x h.1 is insert next
    ∙ ap Inserted index

-- what is no delete at the SID leaves the next base row to come
past_it : (e : Entry) (s : ℕ) (rest : Bool) → (((e.sid == s) && is_delete e.change) || rest) ≡ false → e.sid ≤ s
    → e.sid + delete_worth e.change ≤ s
past_it e s rest free le = search rules

rest_free : (b rest : Bool) → (b || rest) ≡ false → rest ≡ false
rest_free true rest h = cc
rest_free false rest h = h

walk-base : (rid p a d m s : ℕ) (es : List Entry) → Ascends m es → m ≤ s → has_delete s es ≡ false
    → (rid + d) + del_below s es ≡ (s + a) + ins_to s es → place_from rid p a d es ≡ Base s
walk-base rid p a d m s [] h le free at = let is : (rid + d) - a ≡ s = omega (arith, at) in ap Base is
walk-base rid p a d m s (e ∷ es) h le free at =
    elim (cases_lt s e.sid) [
      | inl lt ↦
          let same : (rid + d) ≡ s + a = omega (
            arith,
            at,
            no_inserts e.sid s (e ∷ es) (self_le, h.1) lt,
            no_deletes_below e.sid s (e ∷ es) (self_le, h.1)
                (omega (arith, lt)),
          ) in
          let past : rid + d < e.sid + a = omega (arith, same, lt) in
          let is : (rid + d) - a ≡ s = omega (arith, same) in
          ends_before rid p a d e es past ∙ ap Base is
      | inr ge ↦
          let further = past_it e s (has_delete s es) free ge in
          let ins = insert_count-filter (λ x. nat_le x.sid s) e es in
          let del = delete_count-filter (λ x. nat_lt x.sid s) e es in
          let ins_in = le_in e.sid s (insert_worth e.change) ge in
          let del_in = lt_any e.sid s (delete_worth e.change) further in
          let few_below = del_below-le (e.sid + delete_worth e.change) s es h.1 further in
          let passed : (e.sid + a) + insert_worth e.change ≤ rid + d = omega (arith, at, ins, del, ins_in, del_in, few_below) in
          let next : (rid + (d + delete_worth e.change)) + del_below s es ≡ (s + (a + insert_worth e.change)) + ins_to s es = omega
          (arith, at, ins, del, ins_in, del_in) in
          passes_on rid p a d e es passed
          ∙ walk-base rid (p + 1) (a + insert_worth e.change) (d + delete_worth e.change)
          (e.sid + delete_worth e.change) s es h.1 further (rest_free _ (has_delete s es) free) next
    ]
  where
    self_le : e.sid ≤ e.sid
    self_le = omega arith

-- ---- of the whole list

module _ (key_cols : ℕ) (es : List Entry) (ordered : T (are_ordered key_cols es)) (rid : ℕ) where
  -- each place with the position is that where the walk ends
  place_from-only : (place : Place) → IsAtRid es rid place → place ≡ place_from rid 0 0 0 es
  place_from-only (Inserted k) at = grind (arith, common_steps, ascends, delete_count-take-le, walk-insert)
  place_from-only (Base s) at = grind (arith, common_steps, ascends, del_below-le, walk-base)

  -- so there is one
  pub row_only : (place other : Place) → IsAtRid es rid place → IsAtRid es rid other → place ≡ other
  row_only place other at there = place_from-only place at ∙ sym (place_from-only other there)

-- ---- before a place

deletes_to : (sid m n : ℕ) (es : List Entry) → Ascends m es → m ≤ sid
    → T (list_all (λ e. nat_le (e.sid + delete_worth e.change) sid) (take n es)) → delete_count (take n es) + m ≤ sid
deletes_to sid m zero es h le b = omega arith
deletes_to sid m (suc n) [] h le b = omega arith
deletes_to sid m (suc n) (e ∷ es) h le b =
    let next = le_of (e.sid + delete_worth e.change) sid (first (nat_le (e.sid + delete_worth e.change) sid) _ b) in
    let rest = deletes_to sid (e.sid + delete_worth e.change) n es h.1 next (second (nat_le (e.sid + delete_worth e.change) sid) _ b) in
    omega (arith, h.0, rest, delete_count-cons e (take n es))

-- what stands at a SID, and not behind a delete there
module _ (cmp : Change → Ordering) (no_delete : (gone : Key) → cmp (Del gone) ≡ Greater → ⊥) (sid : ℕ) where
  -- what stands before it is at a smaller SID, or no delete
  before_it : (c : Change) (n : ℕ) → T (is_gt (ordering_then (nat_cmp sid n) (cmp c))) → T (nat_le (n + delete_worth c) sid)
  before_it (Ins row) n h = search rules
  before_it (Mod col value) n h = search rules
  before_it (Del gone) n h = search rules

  -- so no more deletes do than its SID says
  deletes-before : (key_cols : ℕ) (es : List Entry) (n : ℕ) → T (are_ordered key_cols es) → IsSplit (stands_before cmp sid) es n
      → delete_count (take n es) ≤ sid
  deletes-before key_cols es n ordered split =
      let start : 0 ≤ sid = omega arith in
      let each =
      all_from (stands_before cmp sid) (λ e. nat_le (e.sid + delete_worth e.change) sid) (λ e. before_it e.change e.sid) (take n es)
      split.before in
      omega (arith, deletes_to sid 0 n es (ascends key_cols es ordered) start each)

-- before the place of an insert no more rows are deleted than its SID says
pub deletes-before-insert : (key_cols sid : ℕ) (key : Key) (es : List Entry) (n : ℕ) → T (are_ordered key_cols es)
    → IsSplit (stands_before (insert_cmp key_cols key) sid) es n → delete_count (take n es) ≤ sid
deletes-before-insert key_cols sid key es n ordered split =
    deletes-before (insert_cmp key_cols key) (λ gone h. cc) sid key_cols es n ordered split

pub deletes-before-base : (key_cols sid : ℕ) (es : List Entry) (n : ℕ) → T (are_ordered key_cols es)
    → IsSplit (stands_before base_cmp sid) es n → delete_count (take n es) ≤ sid
deletes-before-base key_cols sid es n ordered split = deletes-before base_cmp (λ gone h. cc) sid key_cols es n ordered split

pub deletes-before-change : (key_cols sid : ℕ) (c : Change) (es : List Entry) (n : ℕ) → T (are_ordered key_cols es)
    → IsSplit (stands_before (change_cmp key_cols c) sid) es n → delete_count (take n es) ≤ sid
deletes-before-change key_cols sid c es n ordered split = grind (arith, common_steps, deletes-before)
