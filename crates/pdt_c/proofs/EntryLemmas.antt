-- The search for an entry's own change finds the entry.
use Rattle.std.proofs.Common.{◌≡◌, ℕ, zero, suc, ◌≤◌, Bool, true, false, not, T, Some, List, [], ◌∷◌, length, take, drop}
use Rattle.std.proofs.Common.{nat_cmp, Ordering, Less, Equal, Greater, is_lt, is_gt, refl, sym, ap, ◌∙◌, subst, arith}
use Rattle.std.specs.Prelude.{slice_get}
use Rattle.std.specs.Ordering.{ordering_reverse, ordering_then}
use Rattle.std.specs.Cmp.{nat_cmp_total, tied_itself}
use Rattle.std.specs.List.{list_all}
use Rattle.values.specs.Orders.{key_cmp_total}
use Rattle.values.specs.Shape.{key_of}
use Rattle.model.specs.declared.entry.Entry.{Entry}
use Rattle.model.specs.declared.entry.Change.{Change}
use Rattle.model.specs.declared.entry.Change.TheVariants.{Ins, Del, Mod}
use Rattle.model.specs.Entries.{are_ordered, change_cmp, entry_cmp}
use Rattle.model.proofs.CallerLemmas.{first, less, second}
use Rattle.delta.specs.Search.{stands_before, IsSplit}

-- what holds of all holds of each
holds_at : (p : Entry → Bool) (es : List Entry) (i : ℕ) (e : Entry) → T (list_all p es) → slice_get es i ≡ Some e → T (p e)
holds_at p [] i e h is = cc
holds_at p (x ∷ es) zero e h is = let same : x ≡ e = cc in subst (λ (y : Entry). T (p y)) same (first (p x) _ h)
holds_at p (x ∷ es) (suc i) e h is = holds_at p es i e (second (p x) _ h) is

module _ (key_cols : ℕ) where
  -- what stands before the entry's change at its SID
  abbrev before : Entry → Entry → Bool
  before e = stands_before (change_cmp key_cols e.change) e.sid

  -- a change ties with itself
  change_itself : (c : Change) → change_cmp key_cols c c ≡ Equal
  change_itself (Ins row) = tied_itself key_cmp_total (key_of key_cols row)
  change_itself (Del key) = refl
  change_itself (Mod col value) = tied_itself nat_cmp_total col

  -- an entry does not stand before itself
  itself : (e : Entry) → before e e ≡ false
  itself e = (λ i. is_gt (ordering_then (tied_itself nat_cmp_total e.sid i) (change_itself e.change i)))

  -- of two changes the other way round
  change_turned : (x y : Change) → change_cmp key_cols x y ≡ Less → change_cmp key_cols y x ≡ Greater
  change_turned (Ins row) (Ins other) h = key_cmp_total.antisymm (key_of key_cols other) (key_of key_cols row) ∙ ap ordering_reverse h
  change_turned (Ins row) (Del key) h = refl
  change_turned (Ins row) (Mod col value) h = refl
  change_turned (Del key) (Ins other) h = cc
  change_turned (Del key) (Del other) h = cc
  change_turned (Del key) (Mod col value) h = cc
  change_turned (Mod col value) (Ins other) h = cc
  change_turned (Mod col value) (Del key) h = cc
  change_turned (Mod col value) (Mod other w) h = nat_cmp_total.antisymm other col ∙ ap ordering_reverse h

  -- of two SIDs, and then what breaks the tie
  then_turned : (r o p : Ordering) → ordering_then r o ≡ Less → (o ≡ Less → p ≡ Greater)
      → ordering_then (ordering_reverse r) p ≡ Greater
  then_turned Less o p h turn = refl
  then_turned Equal o p h turn = turn h
  then_turned Greater o p h turn = cc

  -- one that is less stands before it
  earlier : (x e : Entry) → entry_cmp key_cols x e ≡ Less → before e x ≡ true
  earlier x e h =
      ap (λ r. is_gt (ordering_then r (change_cmp key_cols e.change x.change))) (nat_cmp_total.antisymm e.sid x.sid)
      ∙ ap is_gt (then_turned (nat_cmp x.sid e.sid) (change_cmp key_cols x.change e.change) (change_cmp key_cols e.change x.change) h
      (change_turned x.change e.change))

  -- the entries before it are as many as its index
  pub own_index : (es : List Entry) (i n : ℕ) (e : Entry) → T (are_ordered key_cols es) → slice_get es i ≡ Some e
      → T (list_all (before e) (take n es)) → T (list_all (λ y. not (before e y)) (drop n es)) → n ≤ length es → n ≡ i
  own_index [] i n e o is b a le = cc
  own_index (x ∷ es) zero zero e o is b a le = refl
  own_index (x ∷ es) zero (suc n) e o is b a le =
      let same : x ≡ e = cc in
      let here : T (before e x) = first (before e x) _ b in
      let not_here : before e x ≡ false = subst (λ (y : Entry). before e y ≡ false) (sym same) (itself e) in
      absurd (subst T not_here here)
  own_index (x ∷ es) (suc i) zero e o is b a le =
      let all = first (list_all (λ y. is_lt (entry_cmp key_cols x y)) es) (are_ordered key_cols es) o in
      let passes : before e x ≡ true = earlier x e (less _ (holds_at (λ y. is_lt (entry_cmp key_cols x y)) es i e all is)) in
      let here : T (not (before e x)) = first (not (before e x)) _ a in
      absurd (subst (λ (t : Bool). T (not t)) passes here)
  own_index (x ∷ es) (suc i) (suc n) e o is b a le =
      let rest = second (list_all (λ y. is_lt (entry_cmp key_cols x y)) es) (are_ordered key_cols es) o in
      ap suc (own_index es i n e rest is (second (before e x) _ b) a (omega (arith, le)))

  -- so a search that splits the entries there splits them at its index
  pub found_index : (es : List Entry) (i n : ℕ) (e : Entry) → T (are_ordered key_cols es) → slice_get es i ≡ Some e
      → IsSplit (before e) es n → n ≡ i
  found_index es i n e o is split = own_index es i n e o is split.before split.after split.within
