-- A change keeps the entries in order.
use Rattle.std.proofs.Common.{◌≡◌, ℕ, zero, suc, ◌<◌, ◌≤◌, Bool, true, false, cond, not, ◌&&◌, T, List, [], ◌∷◌, ◌++◌, length, take, drop, set, get_or, remove, nat_cmp, Ordering, Less, Equal, Greater, is_lt, is_eq, refl, sym, ap, ◌∙◌, subst, arith, take-append-drop, drop-cons, rules}
use Rattle.std.specs.Ordering.{ordering_then, ordering_reverse}
use Rattle.std.specs.Cmp.{ranked, nat_cmp_total}
use Rattle.std.specs.List.{list_all}
use Rattle.values.specs.Orders.{key_cmp_total}
use Rattle.values.specs.Shape.{key_of}
use Rattle.values.specs.declared.row.Row.{Row}
use Rattle.values.specs.declared.row.Key.{Key}
use Rattle.values.specs.declared.value.Value.{Value}
use Rattle.model.specs.declared.entry.Entry.{Entry}
use Rattle.model.specs.declared.entry.Change.{Change}
use Rattle.model.specs.declared.entry.Change.TheVariants.{Ins, Del, Mod}
use Rattle.model.specs.Entries.{entry_at, is_delete, change_cmp, entry_cmp, are_ordered}
use Rattle.model.specs.Edits.{change_with_cell}
use Rattle.model.proofs.CallerLemmas.{both, first, second, less}
use Rattle.delta.specs.Search.{insert_cmp, modify_cmp, past_cmp, stands_before}
use Rattle.delta.specs.Changes.{modifies_column, is_modify_at, modify_count}
use Rattle.delta.proofs.SearchLemmas.{greater}
use Rattle.std.specs.Prelude.{◌==◌}
use Rattle.std.proofs.lemmas.Bool.{eqb-true}
use Rattle.delta.specs.Lookups.{is_insert_at}
use Rattle.delta.proofs.ChangesLemmas.{set-split, nothing, all_from, tie_is, insert_tie, false_of, modify_tie, insert_cmp-same, modify_cmp-same}
use Rattle.delta.proofs.Words.{with_run}
use Rattle.std.proofs.lemmas.Grind.{common_steps}

module _ (key_cols : ℕ) where
  abbrev pub before_all : Entry → List Entry → Bool
  before_all x ys = list_all (λ y. is_lt (entry_cmp key_cols x y)) ys

  abbrev pub all_before : List Entry → List Entry → Bool
  all_before xs ys = list_all (λ x. before_all x ys) xs

  -- ---- lists in order, in parts

  before_left : (x : Entry) (ys zs : List Entry) → T (before_all x (ys ++ zs)) → T (before_all x ys)
  before_left x [] zs h = tt
  before_left x (y ∷ ys) zs h = grind (arith, common_steps)

  before_right : (x : Entry) (ys zs : List Entry) → T (before_all x (ys ++ zs)) → T (before_all x zs)
  before_right x [] zs h = h
  before_right x (y ∷ ys) zs h = before_right x ys zs (second (is_lt (entry_cmp key_cols x y)) _ h)

  before_join : (x : Entry) (ys zs : List Entry) → T (before_all x ys) → T (before_all x zs) → T (before_all x (ys ++ zs))
  before_join x [] zs h g = g
  before_join x (y ∷ ys) zs h g = grind (arith, common_steps)

  pub ordered_left : (xs ys : List Entry) → T (are_ordered key_cols (xs ++ ys)) → T (are_ordered key_cols xs)
  ordered_left [] ys h = tt
  ordered_left (x ∷ xs) ys h =
      both (before_all x xs) _ (before_left x xs ys (first (before_all x (xs ++ ys)) _ h))
      (ordered_left xs ys (second (before_all x (xs ++ ys)) _ h))

  -- the last part of an ordered list is ordered
  pub ordered_right : (xs ys : List Entry) → T (are_ordered key_cols (xs ++ ys)) → T (are_ordered key_cols ys)
  ordered_right [] ys h = h
  ordered_right (x ∷ xs) ys h = ordered_right xs ys (second (before_all x (xs ++ ys)) _ h)

  pub ordered_across : (xs ys : List Entry) → T (are_ordered key_cols (xs ++ ys)) → T (all_before xs ys)
  ordered_across [] ys h = tt
  ordered_across (x ∷ xs) ys h =
      both (before_all x ys) _ (before_right x xs ys (first (before_all x (xs ++ ys)) _ h))
      (ordered_across xs ys (second (before_all x (xs ++ ys)) _ h))

  pub ordered_join : (xs ys : List Entry) → T (are_ordered key_cols xs) → T (are_ordered key_cols ys) → T (all_before xs ys)
      → T (are_ordered key_cols (xs ++ ys))
  ordered_join [] ys h g a = g
  ordered_join (x ∷ xs) ys h g a = grind (arith, common_steps, ordered_join xs ys (second (before_all x xs) _ h) g (second (before_all x ys) _ a), both, before_join, first, second)

  across_right : (xs ys zs : List Entry) → T (all_before xs (ys ++ zs)) → T (all_before xs zs)
  across_right [] ys zs h = tt
  across_right (x ∷ xs) ys zs h =
      both (before_all x zs) _ (before_right x ys zs (first (before_all x (ys ++ zs)) _ h))
      (across_right xs ys zs (second (before_all x (ys ++ zs)) _ h))

  across_cons : (xs : List Entry) (e : Entry) (zs : List Entry) → T (list_all (λ x. is_lt (entry_cmp key_cols x e)) xs)
      → T (all_before xs zs) → T (all_before xs (e ∷ zs))
  across_cons [] e zs h g = tt
  across_cons (x ∷ xs) e zs h g = grind (arith, common_steps, across_cons xs e zs (second (is_lt (entry_cmp key_cols x e)) _ h) (second (before_all x zs) _ g), both, first, second)

  drop-drop : (n m : ℕ) (es : List Entry) → n ≤ m → (ms : List Entry) × (drop n es ≡ ms ++ drop m es)
  drop-drop zero m es le = (take m es, sym (take-append-drop m es))
  drop-drop (suc n) zero es le = absurd (omega arith)
  drop-drop (suc n) (suc m) [] le = ([], refl)
  drop-drop (suc n) (suc m) (e ∷ es) le = let lower : n ≤ m = omega arith in drop-drop n m es lower

  -- an entry in the place of a run, after all that is left before it, and before all that is left after it
  pub ordered-with_run : (es : List Entry) (n m : ℕ) (e : Entry) → n ≤ m → T (are_ordered key_cols es)
      → T (list_all (λ x. is_lt (entry_cmp key_cols x e)) (take n es)) → T (before_all e (drop m es))
      → T (are_ordered key_cols (with_run es n m e))
  ordered-with_run es n m e le ordered before after =
      let parts = drop-drop n m es le in
      let whole : T (are_ordered key_cols (take n es ++ drop n es)) =
      subst (λ ys. T (are_ordered key_cols ys)) (sym (take-append-drop n es)) ordered in
      let right : T (are_ordered key_cols (parts.0 ++ drop m es)) =
      subst (λ ys. T (are_ordered key_cols ys)) parts.1 (ordered_right (take n es) (drop n es) whole) in
      let across : T (all_before (take n es) (parts.0 ++ drop m es)) =
      subst (λ ys. T (all_before (take n es) ys)) parts.1 (ordered_across (take n es) (drop n es) whole) in
      let tail : T (are_ordered key_cols (e ∷ drop m es)) =
      both (before_all e (drop m es)) _ after (ordered_right parts.0 (drop m es) right) in
      ordered_join (take n es) (e ∷ drop m es) (ordered_left (take n es) (drop n es) whole) tail
      (across_cons (take n es) e (drop m es) before (across_right (take n es) parts.0 (drop m es) across))

  -- without one entry
  pub ordered-remove : (es : List Entry) (n : ℕ) → T (are_ordered key_cols es) → T (are_ordered key_cols (remove es n))
  ordered-remove es n ordered =
      let le : n ≤ suc n = omega arith in
      let parts = drop-drop n (suc n) es le in
      let whole : T (are_ordered key_cols (take n es ++ drop n es)) =
      subst (λ ys. T (are_ordered key_cols ys)) (sym (take-append-drop n es)) ordered in
      let right : T (are_ordered key_cols (parts.0 ++ drop (suc n) es)) =
      subst (λ ys. T (are_ordered key_cols ys)) parts.1 (ordered_right (take n es) (drop n es) whole) in
      let across : T (all_before (take n es) (parts.0 ++ drop (suc n) es)) =
      subst (λ ys. T (all_before (take n es) ys)) parts.1 (ordered_across (take n es) (drop n es) whole) in
      ordered_join (take n es) (drop (suc n) es) (ordered_left (take n es) (drop n es) whole)
      (ordered_right parts.0 (drop (suc n) es) right) (across_right (take n es) parts.0 (drop (suc n) es) across)

  -- ---- the order of two entries

  change_cmp-turned : (x y : Change) → change_cmp key_cols x y ≡ ordering_reverse (change_cmp key_cols y x)
  change_cmp-turned (Ins row) (Ins other) = key_cmp_total.antisymm (key_of key_cols row) (key_of key_cols other)
  change_cmp-turned (Ins row) (Del key) = refl
  change_cmp-turned (Ins row) (Mod col value) = refl
  change_cmp-turned (Del key) (Ins other) = refl
  change_cmp-turned (Del key) (Del other) = refl
  change_cmp-turned (Del key) (Mod col value) = refl
  change_cmp-turned (Mod col value) (Ins other) = refl
  change_cmp-turned (Mod col value) (Del key) = refl
  change_cmp-turned (Mod col value) (Mod other w) = nat_cmp_total.antisymm col other

  then_turned : (r o : Ordering) → ordering_then (ordering_reverse r) (ordering_reverse o) ≡ ordering_reverse (ordering_then r o)
  then_turned Less o = refl
  then_turned Equal o = refl
  then_turned Greater o = refl

  pub entry_cmp-turned : (x y : Entry) → entry_cmp key_cols x y ≡ ordering_reverse (entry_cmp key_cols y x)
  entry_cmp-turned x y = grind (arith, common_steps, change_cmp-turned, then_turned, nat_cmp)

  change_cmp-trans : (x y z : Change) → change_cmp key_cols x y ≡ Less → change_cmp key_cols y z ≡ Less → change_cmp key_cols x z ≡ Less
  change_cmp-trans (Ins a) (Ins b) (Ins c) p q = key_cmp_total.trans (key_of key_cols a) (key_of key_cols b) (key_of key_cols c) p q
  change_cmp-trans (Ins a) (Ins b) (Del c) p q = refl
  change_cmp-trans (Ins a) (Ins b) (Mod c v) p q = refl
  change_cmp-trans (Ins a) (Del b) (Ins c) p q = cc
  change_cmp-trans (Ins a) (Del b) (Del c) p q = refl
  change_cmp-trans (Ins a) (Del b) (Mod c v) p q = refl
  change_cmp-trans (Ins a) (Mod b v) (Ins c) p q = cc
  change_cmp-trans (Ins a) (Mod b v) (Del c) p q = refl
  change_cmp-trans (Ins a) (Mod b v) (Mod c w) p q = refl
  change_cmp-trans (Del a) (Ins b) z p q = cc
  change_cmp-trans (Del a) (Del b) z p q = cc
  change_cmp-trans (Del a) (Mod b v) z p q = cc
  change_cmp-trans (Mod a v) (Ins b) z p q = cc
  change_cmp-trans (Mod a v) (Del b) z p q = cc
  change_cmp-trans (Mod a v) (Mod b w) (Ins c) p q = cc
  change_cmp-trans (Mod a v) (Mod b w) (Del c) p q = cc
  change_cmp-trans (Mod a v) (Mod b w) (Mod c u) p q = nat_cmp_total.trans a b c p q

  -- the order of entries is transitive
  pub entry_cmp-trans : (x y z : Entry) → entry_cmp key_cols x y ≡ Less → entry_cmp key_cols y z ≡ Less → entry_cmp key_cols x z ≡ Less
  entry_cmp-trans x y z p q =
      elim (nat_cmp x.sid y.sid) as (λ r. nat_cmp x.sid y.sid ≡ r → ordering_then r (change_cmp key_cols x.change y.change) ≡ Less
      → entry_cmp key_cols x z ≡ Less) [
        | Less ↦ λ e h. past_less (nat_cmp y.sid z.sid) refl e q
        | Equal ↦ λ e h. level e h
        | Greater ↦ λ e h. cc
      ] refl p
    where
      less_then : (n m : ℕ) (o : Ordering) → nat_cmp n m ≡ Less → ordering_then (nat_cmp n m) o ≡ Less
      less_then n m o e = ap (λ r. ordering_then r o) e

      past_less : (r : Ordering) → nat_cmp y.sid z.sid ≡ r → nat_cmp x.sid y.sid ≡ Less
          → ordering_then (nat_cmp y.sid z.sid) (change_cmp key_cols y.change z.change) ≡ Less → entry_cmp key_cols x z ≡ Less
      past_less Less s e h = less_then x.sid z.sid (change_cmp key_cols x.change z.change) (nat_cmp_total.trans x.sid y.sid z.sid e s)
      past_less Equal s e h =
          let same : y.sid ≡ z.sid = ranked y.sid z.sid Equal (sym s) in
          less_then x.sid z.sid (change_cmp key_cols x.change z.change) (ap (nat_cmp x.sid) (sym same) ∙ e)
      past_less Greater s e h = let more = ap (λ r. ordering_then r (change_cmp key_cols y.change z.change)) s in cc

      level : nat_cmp x.sid y.sid ≡ Equal → change_cmp key_cols x.change y.change ≡ Less → entry_cmp key_cols x z ≡ Less
      level e h =
          let same : x.sid ≡ y.sid = ranked x.sid y.sid Equal (sym e) in
          ap (λ n. ordering_then (nat_cmp n z.sid) (change_cmp key_cols x.change z.change)) same ∙ at_level (nat_cmp y.sid z.sid) q h
        where
          at_level : (r : Ordering) → ordering_then r (change_cmp key_cols y.change z.change) ≡ Less
              → change_cmp key_cols x.change y.change ≡ Less → ordering_then r (change_cmp key_cols x.change z.change) ≡ Less
          at_level Less g f = refl
          at_level Equal g f = change_cmp-trans x.change y.change z.change f g
          at_level Greater g f = cc

  -- ---- an entry against those round its place

  module _ (sid : ℕ) (change : Change) (cmp : Change → Ordering) (same : (c : Change) → cmp c ≡ change_cmp key_cols change c) where
    abbrev put : Entry
    put = entry_at sid change

    stands_after : (x : Entry) → T (stands_before cmp sid x) → T (is_lt (entry_cmp key_cols x put))
    stands_after x h =
        let at : ordering_then (nat_cmp sid x.sid) (cmp x.change) ≡ entry_cmp key_cols put x =
        ap (ordering_then (nat_cmp sid x.sid)) (same x.change) in
        let turned = entry_cmp-turned x put ∙ ap ordering_reverse (sym at ∙ greater _ h) in
        subst (λ r. T (is_lt r)) (sym turned) tt

    pub all_stand_after : (xs : List Entry) → T (list_all (stands_before cmp sid) xs)
        → T (list_all (λ x. is_lt (entry_cmp key_cols x put)) xs)
    all_stand_after xs h = all_from (stands_before cmp sid) (λ x. is_lt (entry_cmp key_cols x put)) stands_after xs h

    -- one that neither stands before nor ties stands after
    pub less_of : (z : Entry) → T (not (stands_before cmp sid z)) → is_eq (entry_cmp key_cols put z) ≡ false
        → entry_cmp key_cols put z ≡ Less
    less_of z h untied = search rules

    -- what stands after one that is after
    pub all_after_less : (y : Entry) (zs : List Entry) → entry_cmp key_cols put y ≡ Less → T (before_all y zs) → T (before_all put zs)
    all_after_less y zs lt h =
        all_from (λ z. is_lt (entry_cmp key_cols y z)) (λ z. is_lt (entry_cmp key_cols put z))
        (λ z g. subst (λ r. T (is_lt r)) (sym (entry_cmp-trans put y z lt (less _ g))) tt) zs h

  pub insert_before : (sid : ℕ) (row : Row) (zs : List Entry)
      → T (list_all (λ z. not (stands_before (insert_cmp key_cols (key_of key_cols row)) sid z)) zs)
      → T (list_all (λ z. not (is_insert_at key_cols sid (key_of key_cols row) z)) zs)
      → T (before_all (entry_at sid (Ins row)) zs)
  insert_before sid row [] h g = tt
  insert_before sid row (z ∷ zs) h g =
      let key = key_of key_cols row in
      let untied =
      tie_is key_cols sid (Ins row) z
      ∙ ap (λ b. (z.sid == sid) && b) (insert_tie key_cols sid row z.change)
      ∙ false_of key_cols sid (is_insert_at key_cols sid key z) (first (not (is_insert_at key_cols sid key z)) _ g) in
      let lt =
      less_of sid (Ins row) (insert_cmp key_cols key) (insert_cmp-same key_cols sid row) z
      (first (not (stands_before (insert_cmp key_cols key) sid z)) _ h) untied in
      both (is_lt (entry_cmp key_cols (entry_at sid (Ins row)) z)) _ (subst (λ r. T (is_lt r)) (sym lt) tt)
      (insert_before sid row zs (second (not (stands_before (insert_cmp key_cols key) sid z)) _ h)
      (second (not (is_insert_at key_cols sid key z)) _ g))

  pub delete_before : (sid : ℕ) (key : Key) (zs : List Entry) → T (list_all (λ z. not (stands_before past_cmp sid z)) zs)
      → T (before_all (entry_at sid (Del key)) zs)
  delete_before sid key [] h = tt
  delete_before sid key (z ∷ zs) h = search rules

  modify_alike : (sid col : ℕ) (value w : Value) (y z : Entry) → y.sid ≡ sid → y.change ≡ Mod col w
      → entry_cmp key_cols y z ≡ entry_cmp key_cols (entry_at sid (Mod col value)) z
  modify_alike sid col value w y z s c = search rules

  pub modify_before : (sid col : ℕ) (value : Value) (ys : List Entry) → T (are_ordered key_cols ys)
      → T (list_all (λ y. not (stands_before (modify_cmp col) sid y)) ys)
      → T (list_all (λ y. not ((y.sid == sid) && is_delete y.change)) ys)
      → T (before_all (entry_at sid (Mod col value)) (drop (modify_count sid col ys) ys))
  modify_before sid col value [] o h d = tt
  modify_before sid col value (y ∷ ys) o h d = by (is_modify_at sid col y) refl
    where
      above : T (before_all y ys)
      above = first (before_all y ys) (are_ordered key_cols ys) o

      untied : is_modify_at sid col y ≡ false → is_eq (entry_cmp key_cols (entry_at sid (Mod col value)) y) ≡ false
      untied e =
          tie_is key_cols sid (Mod col value) y
          ∙ modify_tie key_cols sid col value (y.sid == sid) y.change (first (not ((y.sid == sid) && is_delete y.change)) _ d)
          ∙ e

      of_modify : (here : Bool) (c : Change) → y.change ≡ c → (y.sid == sid) ≡ here → (here && modifies_column col c) ≡ true
          → T (before_all (entry_at sid (Mod col value)) ys)
      of_modify false c s e h = cc
      of_modify true (Ins row) s e h = cc
      of_modify true (Del key) s e h = cc
      of_modify true (Mod other w) s e h =
          let at : y.sid ≡ sid = eqb-true y.sid sid e in
          let is : other ≡ col = eqb-true other col h in
          let change : y.change ≡ Mod col w = s ∙ ap (λ k. Mod k w) is in
          all_from (λ z. is_lt (entry_cmp key_cols y z)) (λ z. is_lt (entry_cmp key_cols (entry_at sid (Mod col value)) z))
          (λ z g. subst (λ r. T (is_lt r)) (modify_alike sid col value w y z at change) g) ys above

      by : (b : Bool) → is_modify_at sid col y ≡ b → T (before_all (entry_at sid (Mod col value)) (drop (cond b 1 0) (y ∷ ys)))
      by true e = of_modify (y.sid == sid) y.change refl refl e
      by false e =
          let lt =
          less_of sid (Mod col value) (modify_cmp col) (modify_cmp-same key_cols sid col value) y
          (first (not (stands_before (modify_cmp col) sid y)) _ h) (untied e) in
          both (is_lt (entry_cmp key_cols (entry_at sid (Mod col value)) y)) _ (subst (λ r. T (is_lt r)) (sym lt) tt)
          (all_after_less sid (Mod col value) (modify_cmp col) (modify_cmp-same key_cols sid col value) y ys lt above)

  -- ---- another value in a cell outside the key

  module _ (col : ℕ) (value : Value) (outside : key_cols ≤ col) where
    abbrev with_cell : Entry → Entry
    with_cell y = entry_at y.sid (change_with_cell col value y.change)

    all_before_changed : (y : Entry) (xs : List Entry) → T (list_all (λ x. is_lt (entry_cmp key_cols x y)) xs)
        → T (list_all (λ x. is_lt (entry_cmp key_cols x (with_cell y))) xs)
    all_before_changed y xs h = grind (arith, common_steps)

    changed_before_all : (y : Entry) (zs : List Entry) → T (before_all y zs) → T (before_all (with_cell y) zs)
    changed_before_all y zs h = grind (arith, common_steps)

    heads : (xs : List Entry) (y : Entry) (zs : List Entry) → T (all_before xs (y ∷ zs))
        → T (list_all (λ x. is_lt (entry_cmp key_cols x y)) xs)
    heads [] y zs h = tt
    heads (x ∷ xs) y zs h = grind (arith, common_steps, heads xs y zs (second (before_all x (y ∷ zs)) (all_before xs (y ∷ zs)) h), first, both, second)

    pub ordered-changed : (es : List Entry) (n : ℕ) → n < length es → T (are_ordered key_cols es)
        → T (are_ordered key_cols (set es n (with_cell (get_or es n nothing))))
    ordered-changed es n short ordered =
        let y = get_or es n nothing in
        let le : n ≤ suc n = omega arith in
        let whole : T (are_ordered key_cols (take n es ++ y ∷ drop (suc n) es)) =
        subst (λ ys. T (are_ordered key_cols ys))
        (sym (ap (λ ys. take n es ++ ys) (sym (drop-cons es n nothing short)) ∙ take-append-drop n es)) ordered in
        let right : T (are_ordered key_cols (y ∷ drop (suc n) es)) = ordered_right (take n es) (y ∷ drop (suc n) es) whole in
        let before = heads (take n es) y (drop (suc n) es) (ordered_across (take n es) (y ∷ drop (suc n) es) whole) in
        let after : T (before_all y (drop (suc n) es)) =
        first (before_all y (drop (suc n) es)) (are_ordered key_cols (drop (suc n) es)) right in
        subst (λ ys. T (are_ordered key_cols ys)) (sym (set-split es n (with_cell y) short))
        (ordered-with_run es n (suc n) (with_cell y) le ordered (all_before_changed y (take n es) before)
        (changed_before_all y (drop (suc n) es) after))
