-- A walk past entries in order, as those of another tree come in order.
use Rattle.std.proofs.Common.{◌≡◌, ℕ, zero, suc, ◌+◌, ◌<◌, ◌≤◌, ◌^◌, ◌⊎◌, Bool, true, false, not, T, Some, None, List, [], ◌∷◌, rules}
use Rattle.std.proofs.Common.{◌++◌, length, take, drop, nat_cmp, Ordering, Less, Greater, is_lt, is_gt, refl, sym, ap, ◌∙◌, subst}
use Rattle.std.proofs.Common.{arith, length-take, take-append-drop}
use Rattle.std.specs.Prelude.{slice_get}
use Rattle.std.specs.Bool.{passes}
use Rattle.std.specs.List.{list_all}
use Rattle.std.specs.Ordering.{ordering_then}
use Rattle.std.specs.Cmp.{tied_itself, nat_cmp_total}
use Rattle.std.proofs.lemmas.Option.{slice_get_within}
use Rattle.values.specs.Orders.{key_cmp_total}
use Rattle.values.specs.Shape.{key_of}
use Rattle.values.specs.declared.row.Row.{Row}
use Rattle.values.specs.declared.row.Key.{Key}
use Rattle.values.specs.declared.value.Value.{Value}
use Rattle.model.specs.declared.clash.ConflictRule.{ConflictRule}
use Rattle.model.specs.declared.clash.ConflictRule.TheVariants.{ByColumn, ByRow}
use Rattle.model.specs.declared.entry.Entry.{Entry}
use Rattle.model.specs.declared.entry.Change.{Change}
use Rattle.model.specs.declared.entry.Change.TheVariants.{Ins, Del, Mod}
use Rattle.model.specs.Entries.{change_cmp, entry_cmp, are_ordered}
use Rattle.model.specs.Places.{insert_count, delete_count}
use Rattle.model.proofs.CallerLemmas.{both, first, second, less, turn_less, turn_greater}
use Rattle.delta.specs.Search.{base_cmp, stands_before, IsSplit}
use Rattle.delta.proofs.CallerLemmas.{insert_worth, delete_worth, insert_count-cons, delete_count-cons, insert_count-append, greater}
use Rattle.delta.proofs.CallerLemmas.{delete_count-append, counts-le, ordered_right}
use Rattle.layers.specs.declared.cursor.Cursor.{Cursor}
use Rattle.layers.specs.declared.beside.Search.{Search}
use Rattle.layers.specs.declared.beside.Search.TheVariants.{Descents, Walk}
use Rattle.layers.specs.Passing.{IsCursor, AreBefore, IsReady, searched_tree}
use Rattle.layers.specs.Serialization.{clash_cmp}
use Rattle.layers.proofs.SerialLemmas.{next_take}
use Rattle.std.proofs.lemmas.Grind.{common_steps}

-- ---- one entry more is passed

module _ (c : Cursor) (here : IsCursor c) where
  abbrev es : List Entry
  es = c.tree.now.entries

  pub counts_fit : c.added + c.gone ≤ 2 ^ 40
  counts_fit = grind (arith, common_steps, counts-le, length-take)

  ahead_next : (n : ℕ) (zs : List Entry) → drop 1 (drop n zs) ≡ drop (n + 1) zs
  ahead_next zero [] = let one : ◌≡◌ {A = ℕ} 1 (zero + 1) = omega arith in ap (λ (m : ℕ). drop m []) one
  ahead_next (suc n) [] = let next : suc (n + 1) ≡ suc n + 1 = omega arith in ap (λ (m : ℕ). drop {A = Entry} m []) next
  ahead_next zero (z ∷ zs) = let one : ◌≡◌ {A = ℕ} 1 (zero + 1) = omega arith in ap (λ (m : ℕ). drop m (z ∷ zs)) one
  ahead_next (suc n) (z ∷ zs) = let next : suc (n + 1) ≡ suc n + 1 = omega arith in ahead_next n zs ∙ ap (λ m. drop m (z ∷ zs)) next

  module _ (e : Entry) (at : slice_get es c.passed ≡ Some e) where
    pub fewer : c.passed < length es
    fewer = slice_get_within es c.passed e at

    pub next_cursor : (rest : List Entry) (added gone : ℕ) → rest ≡ drop 1 c.ahead → added ≡ c.added + insert_worth e.change
        → gone ≡ c.gone + delete_worth e.change → IsCursor (record c { ahead = rest; passed = c.passed + 1; added = added; gone = gone })
    next_cursor rest added gone rest_is added_is gone_is =
        let next = next_take c.passed es e at in
        let inserts = ap insert_count next ∙ insert_count-append (take c.passed es) (e ∷ []) in
        let deletes = ap delete_count next ∙ delete_count-append (take c.passed es) (e ∷ []) in
        record {
          lawful = here.lawful;
          within = omega (arith, fewer);
          ahead_is = rest_is ∙ ap (drop 1) here.ahead_is ∙ ahead_next c.passed es;
          added_is = omega (arith, added_is, here.added_is, inserts, insert_count-cons e []);
          gone_is = omega (arith, gone_is, here.gone_is, deletes, delete_count-cons e []);
        }

-- ---- SIDs in order

pub greater_sid : (a b : ℕ) (o : Ordering) → b < a → ordering_then (nat_cmp a b) o ≡ Greater
greater_sid a b o h = search rules

same_sid : (a b : ℕ) (o : Ordering) → a ≡ b → o ≡ Greater → ordering_then (nat_cmp a b) o ≡ Greater
same_sid a b o h g = ap (λ m. ordering_then (nat_cmp a m) o) (sym h) ∙ ap (λ r. ordering_then r o) (tied_itself nat_cmp_total a) ∙ g

pub sids_greater : (a b : ℕ) (o : Ordering) → ordering_then (nat_cmp a b) o ≡ Greater → (b < a) ⊎ ((a ≡ b) × (o ≡ Greater))
sids_greater a b o h = search rules

pub sids_less : (a b : ℕ) (o : Ordering) → ordering_then (nat_cmp a b) o ≡ Less → (a < b) ⊎ ((a ≡ b) × (o ≡ Less))
sids_less a b o h = search rules

-- ---- changes in order

module _ (key_cols : ℕ) where
  insert_closed : (row : Row) (y z : Change) → change_cmp key_cols y z ≡ Less → change_cmp key_cols (Ins row) z ≡ Greater
      → change_cmp key_cols (Ins row) y ≡ Greater
  insert_closed row (Ins a) (Ins b) p q =
      let lower = turn_greater key_cmp_total (key_of key_cols row) (key_of key_cols b) q in
      turn_less key_cmp_total (key_of key_cols a) (key_of key_cols row)
      (key_cmp_total.trans (key_of key_cols a) (key_of key_cols b) (key_of key_cols row) p lower)
  insert_closed row (Ins a) (Del k) p q = cc
  insert_closed row (Ins a) (Mod c v) p q = cc
  insert_closed row (Del k) (Ins b) p q = cc
  insert_closed row (Del k) (Del j) p q = cc
  insert_closed row (Del k) (Mod c v) p q = cc
  insert_closed row (Mod c v) (Ins b) p q = cc
  insert_closed row (Mod c v) (Del k) p q = cc
  insert_closed row (Mod c v) (Mod d w) p q = cc

  base_closed : (y z : Change) → change_cmp key_cols y z ≡ Less → base_cmp z ≡ Greater → base_cmp y ≡ Greater
  base_closed (Ins a) z p q = refl
  base_closed (Del k) (Ins b) p q = cc
  base_closed (Del k) (Del j) p q = cc
  base_closed (Del k) (Mod c v) p q = cc
  base_closed (Mod c v) (Ins b) p q = cc
  base_closed (Mod c v) (Del k) p q = cc
  base_closed (Mod c v) (Mod d w) p q = cc

  delete_is : (key : Key) (y : Change) → change_cmp key_cols (Del key) y ≡ base_cmp y
  delete_is key (Ins a) = refl
  delete_is key (Del k) = refl
  delete_is key (Mod c v) = refl

  modify_closed : (col : ℕ) (value : Value) (y z : Change) → change_cmp key_cols y z ≡ Less
      → change_cmp key_cols (Mod col value) z ≡ Greater
      → change_cmp key_cols (Mod col value) y ≡ Greater
  modify_closed col value (Ins a) z p q = refl
  modify_closed col value (Del k) (Ins b) p q = cc
  modify_closed col value (Del k) (Del j) p q = cc
  modify_closed col value (Del k) (Mod c v) p q = cc
  modify_closed col value (Mod c v) (Ins b) p q = cc
  modify_closed col value (Mod c v) (Del k) p q = cc
  modify_closed col value (Mod c v) (Mod d w) p q =
      turn_less nat_cmp_total c col (nat_cmp_total.trans c d col p (turn_greater nat_cmp_total col d q))

  -- what stands before one that is before the change is before it too
  closed : (rule : ConflictRule) (c y z : Change) → change_cmp key_cols y z ≡ Less → clash_cmp key_cols rule c z ≡ Greater
      → clash_cmp key_cols rule c y ≡ Greater
  closed ByColumn (Ins row) y z p q = insert_closed row y z p q
  closed ByRow (Ins row) y z p q = insert_closed row y z p q
  closed ByColumn (Del key) y z p q = delete_is key y ∙ base_closed y z p (sym (delete_is key z) ∙ q)
  closed ByRow (Del key) y z p q = delete_is key y ∙ base_closed y z p (sym (delete_is key z) ∙ q)
  closed ByColumn (Mod col value) y z p q = modify_closed col value y z p q
  closed ByRow (Mod col value) y z p q = base_closed y z p q

  insert_later : (a b : Row) (y : Change) → change_cmp key_cols (Ins a) (Ins b) ≡ Less → change_cmp key_cols (Ins a) y ≡ Greater
      → change_cmp key_cols (Ins b) y ≡ Greater
  insert_later a b (Ins e) p q =
      let lower = turn_greater key_cmp_total (key_of key_cols a) (key_of key_cols e) q in
      turn_less key_cmp_total (key_of key_cols e) (key_of key_cols b)
      (key_cmp_total.trans (key_of key_cols e) (key_of key_cols a) (key_of key_cols b) lower p)
  insert_later a b (Del k) p q = cc
  insert_later a b (Mod c v) p q = cc

  past_insert : (rule : ConflictRule) (a : Row) (d y : Change) → change_cmp key_cols (Ins a) d ≡ Less
      → change_cmp key_cols (Ins a) y ≡ Greater
      → clash_cmp key_cols rule d y ≡ Greater
  past_insert ByColumn a (Ins b) y p q = insert_later a b y p q
  past_insert ByRow a (Ins b) y p q = insert_later a b y p q
  past_insert ByColumn a (Del k) (Ins e) p q = refl
  past_insert ByRow a (Del k) (Ins e) p q = refl
  past_insert rule a (Del k) (Del j) p q = cc
  past_insert rule a (Del k) (Mod c v) p q = cc
  past_insert ByColumn a (Mod c v) (Ins e) p q = refl
  past_insert ByRow a (Mod c v) (Ins e) p q = refl
  past_insert rule a (Mod c v) (Del k) p q = cc
  past_insert rule a (Mod c v) (Mod d w) p q = cc

  past_modify : (rule : ConflictRule) (c : ℕ) (v : Value) (d y : Change) → change_cmp key_cols (Mod c v) d ≡ Less
      → clash_cmp key_cols rule (Mod c v) y ≡ Greater → clash_cmp key_cols rule d y ≡ Greater
  past_modify rule c v (Ins b) y p q = cc
  past_modify rule c v (Del k) y p q = cc
  past_modify ByColumn c v (Mod d w) (Ins e) p q = refl
  past_modify ByColumn c v (Mod d w) (Del k) p q = cc
  past_modify ByColumn c v (Mod d w) (Mod e u) p q =
      turn_less nat_cmp_total e d (nat_cmp_total.trans e c d (turn_greater nat_cmp_total c e q) p)
  past_modify ByRow c v (Mod d w) y p q = q

  -- what stands before a change stands before those past that
  later : (rule : ConflictRule) (c d y : Change) → change_cmp key_cols c d ≡ Less → clash_cmp key_cols rule c y ≡ Greater
      → clash_cmp key_cols rule d y ≡ Greater
  later ByColumn (Ins a) d y p q = past_insert ByColumn a d y p q
  later ByRow (Ins a) d y p q = past_insert ByRow a d y p q
  later rule (Del k) (Ins b) y p q = cc
  later rule (Del k) (Del j) y p q = cc
  later rule (Del k) (Mod c v) y p q = cc
  later rule (Mod c v) d y p q = past_modify rule c v d y p q

-- ---- entries in order

pub tested : (r : Ordering) → r ≡ Greater → T (is_gt r)
tested r e = subst (λ (o : Ordering). T (is_gt o)) (sym e) tt

module _ (key_cols : ℕ) (rule : ConflictRule) where
  abbrev pub is_before : Entry → Entry → Bool
  is_before e y = stands_before (clash_cmp key_cols rule e.change) e.sid y

  earlier : (e y z : Entry) → entry_cmp key_cols y z ≡ Less → T (is_before e z) → T (is_before e y)
  earlier e y z below tests = grind (arith, common_steps, tested, nat_cmp, sids_less, sids_greater, greater, greater_sid, same_sid, closed)

  pub still : (e z y : Entry) → entry_cmp key_cols e z ≡ Less → T (is_before e y) → T (is_before z y)
  still e z y below tests = grind (arith, common_steps, tested, nat_cmp, sids_less, sids_greater, greater, greater_sid, same_sid, later)

  -- entries before one stand before the next one
  pub all_still : (e z : Entry) (ys : List Entry) → entry_cmp key_cols e z ≡ Less → T (list_all (is_before e) ys)
      → T (list_all (is_before z) ys)
  all_still e z [] below h = tt
  all_still e z (y ∷ ys) below h =
      both (is_before z y) _ (still e z y below (first (is_before e y) _ h)) (all_still e z ys below (second (is_before e y) _ h))

  -- where one isn't before it, no later one is
  all_past : (e y : Entry) (zs : List Entry) → is_before e y ≡ false → T (list_all (λ z. is_lt (entry_cmp key_cols y z)) zs)
      → T (list_all (λ z. not (is_before e z)) zs)
  all_past e y [] off h = tt
  all_past e y (z ∷ zs) off h = grind (arith, common_steps, all_past e y zs off (second (is_lt (entry_cmp key_cols y z)) _ h), less, first, both, earlier, second)

  negated : (b : Bool) → b ≡ false → T (not b)
  negated true e = cc
  negated false e = tt

  -- the place is that of the entry, where the next one isn't before it, or none is left
  pub split_here : (e : Entry) (es : List Entry) (n : ℕ) → T (are_ordered key_cols es) → n ≤ length es
      → T (list_all (is_before e) (take n es))
      → ((y : Entry) → slice_get es n ≡ Some y → is_before e y ≡ false) → IsSplit (is_before e) es n
  split_here e es n order within before stops =
      let whole = subst (λ zs. T (are_ordered key_cols zs)) (sym (take-append-drop n es)) order in
      let after = by (drop n es) (ordered_right key_cols (take n es) (drop n es) whole) (heads n es stops) in
      record { within = within; before = before; after = after }
    where
      heads : (m : ℕ) (zs : List Entry) → ((y : Entry) → slice_get zs m ≡ Some y → is_before e y ≡ false)
          → (y : Entry) → slice_get (drop m zs) 0 ≡ Some y → is_before e y ≡ false
      heads zero zs f = f
      heads (suc m) [] f = λ y is. cc
      heads (suc m) (z ∷ zs) f = heads m zs f

      by : (zs : List Entry) → T (are_ordered key_cols zs) → ((y : Entry) → slice_get zs 0 ≡ Some y → is_before e y ≡ false)
          → T (list_all (λ z. not (is_before e z)) zs)
      by [] o f = tt
      by (z ∷ zs) o f =
          let off = f z refl in
          let below = first (list_all (λ y. is_lt (entry_cmp key_cols z y)) zs) _ o in
          both (not (is_before e z)) _ (negated (is_before e z) off) (all_past e z zs off below)

  -- with one more that is before it
  pub before_more : (e y : Entry) (es : List Entry) (n : ℕ) → slice_get es n ≡ Some y → is_before e y ≡ true
      → T (list_all (is_before e) (take n es)) → T (list_all (is_before e) (take (n + 1) es))
  before_more e y es n at yields_it h = subst (λ zs. T (list_all (is_before e) zs)) (sym (next_take n es y at)) (by (take n es) h)
    where
      by : (zs : List Entry) → T (list_all (is_before e) zs) → T (list_all (is_before e) (zs ++ y ∷ []))
      by [] g = both (is_before e y) _ (subst T (sym yields_it) tt) tt
      by (z ∷ zs) g = both (is_before e z) _ (first (is_before e z) _ g) (by zs (second (is_before e z) _ g))

-- ---- at a cursor

pub ahead_at : (c : Cursor) → IsCursor c → slice_get c.tree.now.entries c.passed ≡ slice_get c.ahead 0
ahead_at c here = by c.passed c.tree.now.entries ∙ ap (λ es. slice_get es 0) (sym here.ahead_is)
  where
    by : (n : ℕ) (zs : List Entry) → slice_get zs n ≡ slice_get (drop n zs) 0
    by zero zs = refl
    by (suc n) [] = refl
    by (suc n) (z ∷ zs) = by n zs

module _ (rule : ConflictRule) (e : Entry) (c : Cursor) (here : IsCursor c) (before : AreBefore rule c e) where
  -- at an entry that isn't before this one
  pub split_some : (y : Entry) → slice_get c.tree.now.entries c.passed ≡ Some y → is_before c.tree.now.key_cols rule e y ≡ false
      → IsSplit (is_before c.tree.now.key_cols rule e) c.tree.now.entries c.passed
  split_some y at off =
      let order = passes (are_ordered c.tree.now.key_cols c.tree.now.entries) here.lawful.ordered in
      split_here c.tree.now.key_cols rule e c.tree.now.entries c.passed order here.within before
      (λ z is. let same : y ≡ z = cc in ap (is_before c.tree.now.key_cols rule e) (sym same) ∙ off)

  -- and at the end
  pub split_none : slice_get c.tree.now.entries c.passed ≡ None → IsSplit (is_before c.tree.now.key_cols rule e) c.tree.now.entries c.passed
  split_none none =
      let order = passes (are_ordered c.tree.now.key_cols c.tree.now.entries) here.lawful.ordered in
      split_here c.tree.now.key_cols rule e c.tree.now.entries c.passed order here.within before (λ z is. cc)

-- what is ready for an entry is ready for one past it
pub ready_next : (rule : ConflictRule) (s : Search) (e z : Entry) → entry_cmp (searched_tree s).key_cols e z ≡ Less
    → IsReady rule s e → IsReady rule s z
ready_next rule (Descents tree) e z below h = tt
ready_next rule (Walk c) e z below h = (h.0, all_still c.tree.now.key_cols rule e z (take c.passed c.tree.now.entries) below h.1)
