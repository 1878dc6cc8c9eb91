-- Entries that may stand where they do are those of effects.
use Rattle.std.proofs.Common.{◌≡◌, ℕ, zero, suc, ◌+◌, ◌<◌, ◌≤◌, Bool, true, false, cond, ◌&&◌, ◌||◌, T, Option, Some, None, List, [], ◌∷◌, ◌++◌, map, length, Ordering, Less, Equal, Greater, is_lt, nat_cmp, refl, sym, ap, ◌∙◌, subst, arith}
use Rattle.std.proofs.lemmas.Bool.Decides.{nat_tests}
use Rattle.std.specs.Prelude.{◌==◌, nat_lt, nat_le, is_some, is_none, slice_get}
use Rattle.std.specs.Bool.{passes}
use Rattle.std.specs.Ordering.{ordering_then, eq_by_cmp, is_eq}
use Rattle.std.specs.Cmp.{ranked, tied_itself}
use Rattle.std.specs.List.{list_all}
use Rattle.std.specs.FinMap.Entries.{below_all}
use Rattle.std.specs.Cmp.{nat_cmp_total}
use Rattle.values.specs.Orders.{key_cmp, key_cmp_total, key_cmp-IsAntisymmetric}
use Rattle.values.specs.Shape.{Columns, key_of, fits_schema, cell_fits_schema, cell_fault_at, value_fault}
use Rattle.values.specs.declared.fault.ShapeFault.TheVariants as shape
use Rattle.values.specs.declared.value.ColumnType.{ColumnType}
use Rattle.values.specs.declared.value.Value.{Value}
use Rattle.values.specs.declared.row.Row.{Row}
use Rattle.values.specs.declared.row.Key.{Key}
use Rattle.model.specs.declared.entry.Entry.{Entry}
use Rattle.model.specs.declared.entry.Change.{Change}
use Rattle.model.specs.declared.entry.Change.TheVariants.{Ins, Del, Mod}
use Rattle.model.specs.declared.effect.Effect.{Effect}
use Rattle.model.specs.declared.effect.Effect.TheVariants as effect
use Rattle.model.specs.Maps.{is_sorted}
use Rattle.model.specs.Table.{Table, row_at, rank, is_keyed_table, IsTable}
use Rattle.model.specs.Effects.{Cells, Effects, AreOver, fits, all_fit, is_keyed_effect, are_keyed_effects, effect_fits_schema}
use Rattle.model.specs.Entries.{entry_at, entries_of, canonical_entries, entry_cmp, are_ordered}
use Rattle.model.proofs.CallerLemmas.{both, first, second, turn_greater, below_less, below_tied, find_below, find_first, find_past, less, same_key}
use Rattle.model.proofs.CallerLemmas.{is_below, one_if, rank-cons, rank_below, rank-le, rank-le-length, rank-lt, lt_of, of_lt, ordered}
use Rattle.replay.specs.Fitting.{stands_before, deletes_at, may_stand, is_over, are_over}

-- ---- ranks and keys

-- a key that is in a map past its first key is above that one
above_head : (k : Key) (e : Key × Row) (t : Table) → T (below_all key_cmp e.0 t) → T (is_some (row_at t k)) → key_cmp k e.0 ≡ Greater
above_head k e t after there = elim (key_cmp k e.0) as (λ r. key_cmp k e.0 ≡ r → key_cmp k e.0 ≡ Greater) [
  | Less ↦ λ p. absurd (subst (λ (o : Option Row). T (is_some o)) (find_below key_cmp_total k t (below_less key_cmp_total k e.0 t p after)) there)
  | Equal ↦ λ p. absurd (subst (λ (o : Option Row). T (is_some o))
      (find_below key_cmp_total k t (below_tied key_cmp key_cmp_total k e.0 t p after)) there)
  | Greater ↦ λ p. p
] refl

none_below : (n : ℕ) → n ≡ 0 → 0 + n ≡ 0
none_below n e = omega (arith, e)

one_below : (n m : ℕ) → n ≡ m → 1 + n ≡ suc m
one_below n m e = omega (arith, e)

-- at each position stands the row of a key, whose rank it is
pub row_there : (t : Table) (n : ℕ) → T (is_sorted key_cmp t) → n < length t → (k : Key) × (rank k t ≡ n) × T (is_some (row_at t k))
row_there [] n h lt = absurd (omega (arith, lt))
row_there (e ∷ t) zero h lt =
    let after : T (below_all key_cmp e.0 t) = first (below_all key_cmp e.0 t) _ h in (
      e.0,
      rank-cons e.0 e t
          ∙ ap (λ r. one_if (is_lt r) + rank e.0 t) (tied_itself key_cmp_total e.0)
          ∙ none_below (rank e.0 t) (rank_below e.0 t after),
      subst (λ (o : Option Row). T (is_some o)) (sym (find_first key_cmp key_cmp_total e t)) tt,
    )
row_there (e ∷ t) (suc n) h lt =
    let after : T (below_all key_cmp e.0 t) = first (below_all key_cmp e.0 t) _ h in
    let rest = row_there t n (second (below_all key_cmp e.0 t) _ h) (omega (arith, lt)) in
    let past = above_head rest.0 e t after rest.2 in (
      rest.0,
      rank-cons rest.0 e t
          ∙ ap (λ r. one_if (is_lt r) + rank rest.0 t) (turn_greater key_cmp_total rest.0 e.0 past)
          ∙ one_below (rank rest.0 t) n rest.1,
      subst (λ (o : Option Row). T (is_some o)) (sym (find_past key_cmp rest.0 e t past)) rest.2,
    )

-- of two keys the one of lower rank is below the other
ranked_below : (j k : Key) (t : Table) → rank j t < rank k t → key_cmp j k ≡ Less
ranked_below j k t lt = elim (key_cmp j k) as (λ r. key_cmp j k ≡ r → key_cmp j k ≡ Less) [
  | Less ↦ λ p. p
  | Equal ↦ λ p. let same : rank j t ≡ rank k t = ap (λ (x : Key). rank x t) (key_cmp-IsAntisymmetric j k p) in absurd (omega (arith, same, lt))
  | Greater ↦ λ p. let le = rank-le k j t (turn_greater key_cmp_total j k p) in absurd (omega (arith, le, lt))
] refl

-- two keys of one rank that are both there are one
same_rank : (j k : Key) (t : Table) → rank j t ≡ rank k t → T (is_some (row_at t j)) → T (is_some (row_at t k)) → j ≡ k
same_rank j k t e here there = elim (key_cmp j k) as (λ r. key_cmp j k ≡ r → j ≡ k) [
  | Less ↦ λ p. let lt = rank-lt j k t p here in absurd (omega (arith, e, lt))
  | Equal ↦ λ p. key_cmp-IsAntisymmetric j k p
  | Greater ↦ λ p. let lt = rank-lt k j t (turn_greater key_cmp_total j k p) there in absurd (omega (arith, e, lt))
] refl

not_both : (o : Option Row) → T (is_none o) → T (is_some o) → {A : Type 0} → A
not_both None n s = absurd s
not_both (Some row) n s = absurd n

-- of two keys of one rank, the one that isn't there is below the one that is
absent_below : (j k : Key) (t : Table) → rank j t ≡ rank k t → T (is_none (row_at t j)) → T (is_some (row_at t k)) → key_cmp j k ≡ Less
absent_below j k t e none there = elim (key_cmp j k) as (λ r. key_cmp j k ≡ r → key_cmp j k ≡ Less) [
  | Less ↦ λ p. p
  | Equal ↦ λ p. not_both (row_at t j) none (subst (λ (x : Key). T (is_some (row_at t x))) (sym (key_cmp-IsAntisymmetric j k p)) there)
  | Greater ↦ λ p. let lt = rank-lt k j t (turn_greater key_cmp_total j k p) there in absurd (omega (arith, e, lt))
] refl

-- ---- the order of two entries

-- an entry before another stands at a lower place, or there by its change
in_order : {P : Type 0} (a b : ℕ) (o : Ordering) → (a < b → P) → (a ≡ b → T (is_lt o) → P) → T (is_lt (ordering_then (nat_cmp a b) o)) → P
in_order {P} a b o below here h = elim (nat_cmp a b) as (λ r. nat_cmp a b ≡ r → T (is_lt (ordering_then r o)) → P) [
  | Less ↦ λ p g. below (ranked a b Less (sym p))
  | Equal ↦ λ p g. here (ranked a b Equal (sym p)) g
  | Greater ↦ λ p g. absurd g
] refl h

-- a cell that fits the schema is in no key column
cell_outside : (type : Option ColumnType) (key_cols col : ℕ) (v : Value) → T (is_none (cell_fault_at type key_cols col v))
    → T (nat_le key_cols col)
cell_outside None key_cols col v h = absurd h
cell_outside (Some type) key_cols col v h =
    elim (nat_lt col key_cols) as (λ b. nat_lt col key_cols ≡ b → T (is_none (cond b (Some shape.KeyColumn) (value_fault type col v)))
    → T (nat_le key_cols col)) [
      | true ↦ λ e g. absurd g
      | false ↦ λ e g. at_least e
    ] refl h
  where
    at_least : nat_lt col key_cols ≡ false → T (nat_le key_cols col)
    at_least e = grind (arith, nat_tests)

-- ---- effects with one more in front

-- whether a key is below the first of effects
abbrev below_first : Key → Effects → Bool
below_first k [] = true
below_first k (h ∷ x) = is_lt (key_cmp k h.0)

below_them : (k : Key) (x : Effects) → T (below_first k x) → T (is_sorted key_cmp x) → T (below_all key_cmp k x)
below_them k [] p h = tt
below_them k (e ∷ x) p h =
    both (is_lt (key_cmp k e.0)) _ p (below_less key_cmp_total k e.0 x (less (key_cmp k e.0) p) (first (below_all key_cmp e.0 x) _ h))

module _ (schema : Columns) (t : Table) where
  abbrev Keyed : Effects → Type 0
  Keyed x = T (list_all (λ e. is_keyed_effect schema.key_cols e.0 e.1) x)

  abbrev Fitting : Effects → Type 0
  Fitting x = T (list_all (λ e. effect_fits_schema schema e.1) x)

  ascend : (x : Effects) → AreOver schema t x → T (is_sorted key_cmp x)
  ascend x h = first (is_sorted key_cmp x) _ (passes (are_keyed_effects schema.key_cols x) h.effects_are.keyed)

  keyed : (x : Effects) → AreOver schema t x → Keyed x
  keyed x h = second (is_sorted key_cmp x) _ (passes (are_keyed_effects schema.key_cols x) h.effects_are.keyed)

  fitting : (x : Effects) → AreOver schema t x → Fitting x
  fitting x h = passes (list_all (λ e. effect_fits_schema schema e.1) x) h.effects_are.fitting

  fit : (x : Effects) → AreOver schema t x → T (all_fit t x)
  fit x h = passes (all_fit t x) h.fit

  is_true : (b : Bool) → T b → b ≡ true
  is_true true p = refl
  is_true false p = absurd p

  -- effects over the table, from what holds of each
  over : (x : Effects) → IsTable schema t → T (is_sorted key_cmp x) → Keyed x → Fitting x → T (all_fit t x) → AreOver schema t x
  over x table up k f p = record {
    table = table;
    effects_are = record {
      keyed = is_true (are_keyed_effects schema.key_cols x) (both (is_sorted key_cmp x) _ up k);
      fitting = is_true (list_all (λ e. effect_fits_schema schema e.1) x) f;
    };
    fit = is_true (all_fit t x) p;
  }

  fresh : (k : Key) (f : Effect) (x : Effects) → AreOver schema t x → T (below_first k x) → T (is_keyed_effect schema.key_cols k f)
      → T (effect_fits_schema schema f) → T (fits (row_at t k) f) → AreOver schema t ((k, f) ∷ x)
  fresh k f x h below has_key fits_it may =
      over ((k, f) ∷ x) h.table
      (both (below_all key_cmp k x) (is_sorted key_cmp x) (below_them k x below (ascend x h)) (ascend x h))
      (both (is_keyed_effect schema.key_cols k f) _ has_key (keyed x h))
      (both (effect_fits_schema schema f) _ fits_it (fitting x h))
      (both (fits (row_at t k) f) _ may (fit x h))

  -- the same with another effect in front
  instead : (k : Key) (f g : Effect) (x : Effects) → AreOver schema t ((k, f) ∷ x) → T (is_keyed_effect schema.key_cols k g)
      → T (effect_fits_schema schema g) → T (fits (row_at t k) g) → AreOver schema t ((k, g) ∷ x)
  instead k f g x h has_key fits_it may =
      over ((k, g) ∷ x) h.table (ascend ((k, f) ∷ x) h)
      (both (is_keyed_effect schema.key_cols k g) _ has_key (second (is_keyed_effect schema.key_cols k f) _ (keyed ((k, f) ∷ x) h)))
      (both (effect_fits_schema schema g) _ fits_it (second (effect_fits_schema schema f) _ (fitting ((k, f) ∷ x) h)))
      (both (fits (row_at t k) g) _ may (second (fits (row_at t k) f) _ (fit ((k, f) ∷ x) h)))

  -- what the first effect is, by itself
  first_keyed : (k : Key) (f : Effect) (x : Effects) → AreOver schema t ((k, f) ∷ x) → T (is_keyed_effect schema.key_cols k f)
  first_keyed k f x h = first (is_keyed_effect schema.key_cols k f) _ (keyed ((k, f) ∷ x) h)

  first_fitting : (k : Key) (f : Effect) (x : Effects) → AreOver schema t ((k, f) ∷ x) → T (effect_fits_schema schema f)
  first_fitting k f x h = first (effect_fits_schema schema f) _ (fitting ((k, f) ∷ x) h)

  first_fit : (k : Key) (f : Effect) (x : Effects) → AreOver schema t ((k, f) ∷ x) → T (fits (row_at t k) f)
  first_fit k f x h = first (fits (row_at t k) f) _ (fit ((k, f) ∷ x) h)

  -- effects whose entries are these and one more in front
  abbrev Extended : Entry → Effects → Type 0
  Extended e x = (y : Effects) × AreOver schema t y × (canonical_entries t y ≡ e ∷ canonical_entries t x)

  tied : (k : Key) → T (eq_by_cmp key_cmp k k)
  tied k = subst (λ r. T (is_eq r)) (sym (tied_itself key_cmp_total k)) tt

  -- ---- a row that is inserted

  module _ (sid : ℕ) (row : Row) (shaped : T (fits_schema schema row)) (place : rank (key_of schema.key_cols row) t ≡ sid) where
    abbrev own : Key
    own = key_of schema.key_cols row

    insert_fresh : (x : Effects) → AreOver schema t x → T (below_first own x) → T (is_none (row_at t own)) → Extended (entry_at sid (Ins row)) x
    insert_fresh x h below none = (
      (own, effect.Ins row) ∷ x,
      fresh own (effect.Ins row) x h below (tied own) shaped none,
      ap (λ n. entry_at n (Ins row) ∷ canonical_entries t x) place,
    )

    -- before effects at a place above
    insert_past : (k : Key) (f : Effect) (x : Effects) → AreOver schema t ((k, f) ∷ x) → sid < rank k t → T (is_none (row_at t own))
        → Extended (entry_at sid (Ins row)) ((k, f) ∷ x)
    insert_past k f x h lt none =
        let lower : rank own t < rank k t = omega (arith, place, lt) in
        insert_fresh ((k, f) ∷ x) h (subst (λ r. T (is_lt r)) (sym (ranked_below own k t lower)) tt) none

    -- before an insert at the place
    insert_before : (k : Key) (f : Effect) (x : Effects) (new : Row) → AreOver schema t ((k, f) ∷ x)
        → T (eq_by_cmp key_cmp k (key_of schema.key_cols new))
        → T (is_lt (key_cmp own (key_of schema.key_cols new))) → T (is_none (row_at t own)) → Extended (entry_at sid (Ins row)) ((k, f) ∷ x)
    insert_before k f x new h key lt none =
        insert_fresh ((k, f) ∷ x) h (subst (λ (j : Key). T (is_lt (key_cmp own j))) (sym (same_key k (key_of schema.key_cols new) key)) lt) none

    -- before what becomes of the row at the place
    insert_above : (k : Key) (f : Effect) (x : Effects) → AreOver schema t ((k, f) ∷ x) → sid ≡ rank k t → T (is_some (row_at t k))
        → T (is_none (row_at t own)) → Extended (entry_at sid (Ins row)) ((k, f) ∷ x)
    insert_above k f x h at there none =
        insert_fresh ((k, f) ∷ x) h
        (subst (λ r. T (is_lt r)) (sym (absent_below own k t (place ∙ at) none there)) tt) none

    -- in place of the row that is deleted there
    insert_instead : (k : Key) (x : Effects) → AreOver schema t ((k, effect.Del) ∷ x) → sid ≡ rank k t → T (is_some (row_at t own))
        → Extended (entry_at sid (Ins row)) ((k, effect.Del) ∷ x)
    insert_instead k x h at here =
        let same : own ≡ k = same_rank own k t (place ∙ at) here (first_fit k effect.Del x h) in (
          (k, effect.Rep row) ∷ x,
          instead k effect.Del (effect.Rep row) x h (subst (λ (j : Key). T (eq_by_cmp key_cmp j own)) same (tied own)) shaped
              (first_fit k effect.Del x h),
          ap (λ n. entry_at n (Ins row) ∷ entry_at (rank k t) (Del k) ∷ canonical_entries t x) (sym at),
        )

    absent : (o : Option Row) (b : Bool) → b ≡ false → T (is_none o || b) → T (is_none o)
    absent None b e h = tt
    absent (Some r) true e h = absurd cc
    absent (Some r) false e h = absurd h

    other_place : (n m : ℕ) (b : Bool) → n < m → ((m == n) && b) ≡ false
    other_place n m b lt = grind (arith, nat_tests)

    insert_over : (k : Key) (f : Effect) (x : Effects) → AreOver schema t ((k, f) ∷ x)
        → (let next = slice_get (canonical_entries t ((k, f) ∷ x)) 0 in
        T (stands_before schema.key_cols (entry_at sid (Ins row)) next) → T (is_none (row_at t own) || deletes_at sid next)
        → Extended (entry_at sid (Ins row)) ((k, f) ∷ x))
    insert_over k (effect.Ins new) x h = λ before may.
        let none = absent (row_at t own) ((rank k t == sid) && false) (no_and (rank k t == sid)) may in
        in_order sid (rank k t) (key_cmp own (key_of schema.key_cols new)) (λ lt. insert_past k (effect.Ins new) x h lt none)
        (λ at lt. insert_before k (effect.Ins new) x new h (first_keyed k (effect.Ins new) x h) lt none) before
      where
        no_and : (b : Bool) → (b && false) ≡ false
        no_and true = refl
        no_and false = refl
    insert_over k (effect.Rep new) x h = λ before may.
        let none = absent (row_at t own) ((rank k t == sid) && false) (no_and (rank k t == sid)) may in
        in_order sid (rank k t) (key_cmp own (key_of schema.key_cols new)) (λ lt. insert_past k (effect.Rep new) x h lt none)
        (λ at lt. insert_before k (effect.Rep new) x new h (first_keyed k (effect.Rep new) x h) lt none) before
      where
        no_and : (b : Bool) → (b && false) ≡ false
        no_and true = refl
        no_and false = refl
    insert_over k (effect.Mod []) x h = absurd (first_keyed k (effect.Mod []) x h)
    insert_over k (effect.Mod (c ∷ cells)) x h = λ before may.
        let none = absent (row_at t own) ((rank k t == sid) && false) (no_and (rank k t == sid)) may in
        in_order sid (rank k t) Less (λ lt. insert_past k (effect.Mod (c ∷ cells)) x h lt none)
        (λ at lt. insert_above k (effect.Mod (c ∷ cells)) x h at (first_fit k (effect.Mod (c ∷ cells)) x h) none) before
      where
        no_and : (b : Bool) → (b && false) ≡ false
        no_and true = refl
        no_and false = refl
    insert_over k effect.Del x h = λ before may.
        in_order sid (rank k t) Less
        (λ lt. insert_past k effect.Del x h lt (absent (row_at t own) ((rank k t == sid) && true) (other_place sid (rank k t) true lt) may))
        (λ at lt. by_row (row_at t own) refl at) before
      where
        by_row : (o : Option Row) → row_at t own ≡ o → sid ≡ rank k t → Extended (entry_at sid (Ins row)) ((k, effect.Del) ∷ x)
        by_row None is at =
            insert_above k effect.Del x h at (first_fit k effect.Del x h) (subst (λ (o : Option Row). T (is_none o)) (sym is) tt)
        by_row (Some old) is at = insert_instead k x h at (subst (λ (o : Option Row). T (is_some o)) (sym is) tt)

  -- ---- a row that is deleted

  module _ (sid : ℕ) (key : Key) (place : rank key t ≡ sid) (there : T (is_some (row_at t key))) where
    delete_fresh : (x : Effects) → AreOver schema t x → T (below_first key x) → Extended (entry_at sid (Del key)) x
    delete_fresh x h below = (
      (key, effect.Del) ∷ x,
      fresh key effect.Del x h below tt tt there,
      ap (λ n. entry_at n (Del key) ∷ canonical_entries t x) place,
    )

    delete_past : (k : Key) (f : Effect) (x : Effects) → AreOver schema t ((k, f) ∷ x) → sid < rank k t
        → Extended (entry_at sid (Del key)) ((k, f) ∷ x)
    delete_past k f x h lt =
        let lower : rank key t < rank k t = omega (arith, place, lt) in
        delete_fresh ((k, f) ∷ x) h (subst (λ r. T (is_lt r)) (sym (ranked_below key k t lower)) tt)

    delete_over : (k : Key) (f : Effect) (x : Effects) → AreOver schema t ((k, f) ∷ x)
        → T (stands_before schema.key_cols (entry_at sid (Del key)) (slice_get (canonical_entries t ((k, f) ∷ x)) 0))
        → Extended (entry_at sid (Del key)) ((k, f) ∷ x)
    delete_over k (effect.Ins new) x h before =
        in_order sid (rank k t) Greater (λ lt. delete_past k (effect.Ins new) x h lt) (λ at lt. absurd lt) before
    delete_over k (effect.Rep new) x h before =
        in_order sid (rank k t) Greater (λ lt. delete_past k (effect.Rep new) x h lt) (λ at lt. absurd lt) before
    delete_over k (effect.Mod []) x h before = absurd (first_keyed k (effect.Mod []) x h)
    delete_over k (effect.Mod (c ∷ cells)) x h before =
        in_order sid (rank k t) Equal (λ lt. delete_past k (effect.Mod (c ∷ cells)) x h lt) (λ at lt. absurd lt) before
    delete_over k effect.Del x h before =
        in_order sid (rank k t) Equal (λ lt. delete_past k effect.Del x h lt) (λ at lt. absurd lt) before

  -- ---- a row that is modified

  module _ (sid col : ℕ) (v : Value) (inside : sid < length t) (shaped : T (cell_fits_schema schema col v)) where
    outside : T (nat_le schema.key_cols col)
    outside = cell_outside (slice_get schema.types col) schema.key_cols col v shaped

    modify_fresh : (x : Effects) → AreOver schema t x → (k : Key) → rank k t ≡ sid → T (is_some (row_at t k)) → T (below_first k x)
        → Extended (entry_at sid (Mod col v)) x
    modify_fresh x h k place there below = (
      (k, effect.Mod ((col, v) ∷ [])) ∷ x,
      fresh k (effect.Mod ((col, v) ∷ [])) x h below (both (nat_le schema.key_cols col) true outside tt)
          (both (cell_fits_schema schema col v) true shaped tt) there,
      ap (λ n. entry_at n (Mod col v) ∷ canonical_entries t x) place,
    )

    modify_past : (k : Key) (f : Effect) (x : Effects) → AreOver schema t ((k, f) ∷ x) → sid < rank k t
        → Extended (entry_at sid (Mod col v)) ((k, f) ∷ x)
    modify_past k f x h lt =
        let here = row_there t sid (first (is_sorted key_cmp t) _ (passes (is_keyed_table schema.key_cols t) h.table.keyed)) inside in
        let place = here.1 in
        let lower : rank here.0 t < rank k t = omega (arith, place, lt) in
        modify_fresh ((k, f) ∷ x) h here.0 here.1 here.2 (subst (λ r. T (is_lt r)) (sym (ranked_below here.0 k t lower)) tt)

    -- beside other modifies of the row, of columns after it
    modify_beside : (k : Key) (c : ℕ × Value) (cells : Cells) (x : Effects) → AreOver schema t ((k, effect.Mod (c ∷ cells)) ∷ x)
        → sid ≡ rank k t → T (is_lt (nat_cmp col c.0)) → Extended (entry_at sid (Mod col v)) ((k, effect.Mod (c ∷ cells)) ∷ x)
    modify_beside k c cells x h at lt =
        let old = first_keyed k (effect.Mod (c ∷ cells)) x h in
        let up : T (is_sorted nat_cmp (c ∷ cells)) = first (is_sorted nat_cmp (c ∷ cells)) _ old in
        let rest : T (list_all (λ d. nat_le schema.key_cols d.0) (c ∷ cells)) = second (is_sorted nat_cmp (c ∷ cells)) _ old in
        let all : T (below_all nat_cmp col (c ∷ cells)) =
        both (is_lt (nat_cmp col c.0)) _ lt
        (below_less nat_cmp_total col c.0 cells (less (nat_cmp col c.0) lt) (first (below_all nat_cmp c.0 cells) _ up)) in (
          (k, effect.Mod ((col, v) ∷ c ∷ cells)) ∷ x,
          instead k (effect.Mod (c ∷ cells)) (effect.Mod ((col, v) ∷ c ∷ cells)) x h
              (both (is_sorted nat_cmp ((col, v) ∷ c ∷ cells)) _ (both (below_all nat_cmp col (c ∷ cells)) _ all up)
              (both (nat_le schema.key_cols col) _ outside rest))
              (both (cell_fits_schema schema col v) _ shaped (first_fitting k (effect.Mod (c ∷ cells)) x h))
              (first_fit k (effect.Mod (c ∷ cells)) x h),
          ap (λ n. entry_at n (Mod col v) ∷ canonical_entries t ((k, effect.Mod (c ∷ cells)) ∷ x)) (sym at),
        )

    modify_over : (k : Key) (f : Effect) (x : Effects) → AreOver schema t ((k, f) ∷ x)
        → T (stands_before schema.key_cols (entry_at sid (Mod col v)) (slice_get (canonical_entries t ((k, f) ∷ x)) 0))
        → Extended (entry_at sid (Mod col v)) ((k, f) ∷ x)
    modify_over k (effect.Ins new) x h before =
        in_order sid (rank k t) Greater (λ lt. modify_past k (effect.Ins new) x h lt) (λ at lt. absurd lt) before
    modify_over k (effect.Rep new) x h before =
        in_order sid (rank k t) Greater (λ lt. modify_past k (effect.Rep new) x h lt) (λ at lt. absurd lt) before
    modify_over k (effect.Mod []) x h before = absurd (first_keyed k (effect.Mod []) x h)
    modify_over k (effect.Mod (c ∷ cells)) x h before =
        in_order sid (rank k t) (nat_cmp col c.0) (λ lt. modify_past k (effect.Mod (c ∷ cells)) x h lt)
        (λ at lt. modify_beside k c cells x h at lt) before
    modify_over k effect.Del x h before =
        in_order sid (rank k t) Equal (λ lt. modify_past k effect.Del x h lt) (λ at lt. absurd lt) before

  -- ---- any entry

  same_number : (n m : ℕ) → T (n == m) → n ≡ m
  same_number n m h = grind (arith, nat_tests)

  none_or_false : (o : Option Row) → T (is_none o || false) → T (is_none o)
  none_or_false None h = tt
  none_or_false (Some r) h = absurd h

  extend : (sid : ℕ) (c : Change) (x : Effects) → AreOver schema t x
      → T (is_over schema t (entry_at sid c) (slice_get (canonical_entries t x) 0)) → Extended (entry_at sid c) x
  extend sid (Ins row) [] h test =
      let may = second (stands_before schema.key_cols (entry_at sid (Ins row)) None) _ test in
      let rest = second (fits_schema schema row) _ may in
      insert_fresh sid row (first (fits_schema schema row) _ may)
      (same_number (rank (key_of schema.key_cols row) t) sid (first (rank (key_of schema.key_cols row) t == sid) _ rest)) [] h tt
      (none_or_false (row_at t (key_of schema.key_cols row)) (second (rank (key_of schema.key_cols row) t == sid) _ rest))
  extend sid (Ins row) (e ∷ x) h test =
      let next = slice_get (canonical_entries t (e ∷ x)) 0 in
      let may = second (stands_before schema.key_cols (entry_at sid (Ins row)) next) _ test in
      let rest = second (fits_schema schema row) _ may in
      insert_over sid row (first (fits_schema schema row) _ may)
      (same_number (rank (key_of schema.key_cols row) t) sid (first (rank (key_of schema.key_cols row) t == sid) _ rest)) e.0 e.1 x h
      (first (stands_before schema.key_cols (entry_at sid (Ins row)) next) _ test)
      (second (rank (key_of schema.key_cols row) t == sid) _ rest)
  extend sid (Del key) [] h test =
      let may = second (stands_before schema.key_cols (entry_at sid (Del key)) None) _ test in
      delete_fresh sid key (same_number (rank key t) sid (first (rank key t == sid) _ may)) (second (rank key t == sid) _ may) [] h tt
  extend sid (Del key) (e ∷ x) h test =
      let next = slice_get (canonical_entries t (e ∷ x)) 0 in
      let may = second (stands_before schema.key_cols (entry_at sid (Del key)) next) _ test in
      delete_over sid key (same_number (rank key t) sid (first (rank key t == sid) _ may)) (second (rank key t == sid) _ may) e.0 e.1 x h
      (first (stands_before schema.key_cols (entry_at sid (Del key)) next) _ test)
  extend sid (Mod col v) [] h test =
      let may = second (stands_before schema.key_cols (entry_at sid (Mod col v)) None) _ test in
      let inside = lt_of sid (length t) (first (nat_lt sid (length t)) _ may) in
      let here = row_there t sid (first (is_sorted key_cmp t) _ (passes (is_keyed_table schema.key_cols t) h.table.keyed)) inside in
      modify_fresh sid col v inside (second (nat_lt sid (length t)) _ may) [] h here.0 here.1 here.2 tt
  extend sid (Mod col v) (e ∷ x) h test =
      let next = slice_get (canonical_entries t (e ∷ x)) 0 in
      let may = second (stands_before schema.key_cols (entry_at sid (Mod col v)) next) _ test in
      modify_over sid col v (lt_of sid (length t) (first (nat_lt sid (length t)) _ may)) (second (nat_lt sid (length t)) _ may) e.0 e.1 x h
      (first (stands_before schema.key_cols (entry_at sid (Mod col v)) next) _ test)

  -- entries that pass are those of effects over the table
  pub effects_of_entries : IsTable schema t → (es : List Entry) → T (are_over schema t es)
      → (x : Effects) × AreOver schema t x × (es ≡ canonical_entries t x)
  effects_of_entries table [] h = ([], over [] table tt tt tt tt, refl)
  effects_of_entries table (e ∷ es) h =
      let rest = effects_of_entries table es (second (is_over schema t e (slice_get es 0)) _ h) in
      let test : T (is_over schema t e (slice_get (canonical_entries t rest.0) 0)) =
      subst (λ (ys : List Entry). T (is_over schema t e (slice_get ys 0))) rest.2 (first (is_over schema t e (slice_get es 0)) _ h) in
      let more = extend e.sid e.change rest.0 rest.1 test in
      (more.0, more.1, ap (λ (ys : List Entry). e ∷ ys) rest.2 ∙ sym more.2)

-- ---- the entries of effects pass

-- the rank of a key that is there is a position of the table
rank_within : (k : Key) (t : Table) → T (is_some (row_at t k)) → rank k t < length t
rank_within k [] there = absurd there
rank_within k (e ∷ t) there =
    elim (key_cmp k e.0) as (λ r. key_cmp k e.0 ≡ r → T (is_some (cond (is_eq r) (Some e.1) (row_at t k))) → rank k (e ∷ t) < suc (length t)) [
      | Less ↦ λ p g. later (turned Less p) (rank_within k t g)
      | Equal ↦ λ p g.
          let here : key_cmp e.0 k ≡ Equal =
          ap (λ (x : Key). key_cmp x k) (sym (key_cmp-IsAntisymmetric k e.0 p)) ∙ tied_itself key_cmp_total k in
          let first_is : rank k (e ∷ t) ≡ 0 + rank k t = rank-cons k e t ∙ ap (λ r. one_if (is_lt r) + rank k t) here in
          let le = rank-le-length k t in
          omega (arith, first_is, le)
      | Greater ↦ λ p g. later (turned Greater p) (rank_within k t g)
    ] refl there
  where
    at_most : (b : Bool) → one_if b ≤ 1
    at_most true = omega arith
    at_most false = omega arith

    turned : (r : Ordering) → key_cmp k e.0 ≡ r → one_if (is_below e.0 k) ≤ 1
    turned r p = at_most (is_below e.0 k)

    later : one_if (is_below e.0 k) ≤ 1 → rank k t < length t → rank k (e ∷ t) < suc (length t)
    later le lt = let is = rank-cons k e t in omega (arith, is, le, lt)

same_test : (n : ℕ) → T (n == n)
same_test n = grind (arith, nat_tests)

or_left : (a b : Bool) → T a → T (a || b)
or_left true b p = tt
or_left false b p = absurd p

or_right : (a b : Bool) → T b → T (a || b)
or_right true b p = tt
or_right false b p = p

module _ (schema : Columns) (t : Table) where
  -- an entry in order stands before the next one
  stands : (e : Entry) (es : List Entry) → T (are_ordered schema.key_cols (e ∷ es)) → T (stands_before schema.key_cols e (slice_get es 0))
  stands e [] h = tt
  stands e (y ∷ es) h =
      first (is_lt (entry_cmp schema.key_cols e y)) _ (first (list_all (λ z. is_lt (entry_cmp schema.key_cols e z)) (y ∷ es)) _ h)

  abbrev Ordered : List Entry → Type 0
  Ordered es = T (are_ordered schema.key_cols es)

  behind : (e : Entry) (es : List Entry) → Ordered (e ∷ es) → Ordered es
  behind e es h = second (list_all (λ z. is_lt (entry_cmp schema.key_cols e z)) es) _ h

  one_more : (e : Entry) (es : List Entry) → Ordered (e ∷ es) → T (may_stand schema t e.sid e.change (slice_get es 0)) → T (are_over schema t es)
      → T (are_over schema t (e ∷ es))
  one_more e es h may rest =
      both (is_over schema t e (slice_get es 0)) _ (both (stands_before schema.key_cols e (slice_get es 0)) _ (stands e es h) may) rest

  cells_pass : (k : Key) (cells : Cells) (rest : List Entry) → T (list_all (λ c. cell_fits_schema schema c.0 c.1) cells)
      → T (is_some (row_at t k)) → Ordered (map (λ c. entry_at (rank k t) (Mod c.0 c.1)) cells ++ rest) → T (are_over schema t rest)
      → T (are_over schema t (map (λ c. entry_at (rank k t) (Mod c.0 c.1)) cells ++ rest))
  cells_pass k [] rest shaped there h passed = passed
  cells_pass k (c ∷ cells) rest shaped there h passed =
      let es = map (λ c. entry_at (rank k t) (Mod c.0 c.1)) cells ++ rest in
      one_more (entry_at (rank k t) (Mod c.0 c.1)) es h
      (both (nat_lt (rank k t) (length t)) _ (of_lt (rank k t) (length t) (rank_within k t there))
      (first (cell_fits_schema schema c.0 c.1) _ shaped))
      (cells_pass k cells rest (second (cell_fits_schema schema c.0 c.1) _ shaped) there
      (behind (entry_at (rank k t) (Mod c.0 c.1)) es h) passed)

  delete_passes : (k : Key) (rest : List Entry) → T (is_some (row_at t k)) → Ordered (entry_at (rank k t) (Del k) ∷ rest)
      → T (are_over schema t rest) → T (are_over schema t (entry_at (rank k t) (Del k) ∷ rest))
  delete_passes k rest there h passed =
      one_more (entry_at (rank k t) (Del k)) rest h (both (rank k t == rank k t) _ (same_test (rank k t)) there) passed

  insert_passes : (k : Key) (row : Row) (rest : List Entry) → T (eq_by_cmp key_cmp k (key_of schema.key_cols row)) → T (fits_schema schema row)
      → T (is_none (row_at t k) || deletes_at (rank k t) (slice_get rest 0))
      → Ordered (entry_at (rank k t) (Ins row) ∷ rest) → T (are_over schema t rest) → T (are_over schema t (entry_at (rank k t) (Ins row) ∷ rest))
  insert_passes k row rest key shaped may h passed =
      let own = key_of schema.key_cols row in
      one_more (entry_at (rank k t) (Ins row)) rest h
      (both (fits_schema schema row) _ shaped
      (subst (λ (j : Key). T ((rank j t == rank k t) && (is_none (row_at t j) || deletes_at (rank k t) (slice_get rest 0)))) (same_key k own key)
      (both (rank k t == rank k t) _ (same_test (rank k t)) may)))
      passed

  effect_passes : (k : Key) (f : Effect) (rest : List Entry) → T (is_keyed_effect schema.key_cols k f) → T (effect_fits_schema schema f)
      → T (fits (row_at t k) f) → Ordered (entries_of (rank k t) k f ++ rest) → T (are_over schema t rest)
      → T (are_over schema t (entries_of (rank k t) k f ++ rest))
  effect_passes k (effect.Ins row) rest key shaped may h passed =
      insert_passes k row rest key shaped (or_left (is_none (row_at t k)) _ may) h passed
  effect_passes k effect.Del rest key shaped may h passed = delete_passes k rest may h passed
  effect_passes k (effect.Mod cells) rest key shaped may h passed = cells_pass k cells rest shaped may h passed
  effect_passes k (effect.Rep row) rest key shaped may h passed =
      let gone = entry_at (rank k t) (Del k) ∷ rest in
      insert_passes k row gone key shaped
      (or_right (is_none (row_at t k)) _ (both (rank k t == rank k t) true (same_test (rank k t)) tt)) h
      (delete_passes k rest may (behind (entry_at (rank k t) (Ins row)) gone h) passed)

  after_front : (front rest : List Entry) → Ordered (front ++ rest) → Ordered rest
  after_front [] rest h = h
  after_front (e ∷ front) rest h = after_front front rest (behind e (front ++ rest) h)

  all_pass : (x : Effects) → T (list_all (λ e. is_keyed_effect schema.key_cols e.0 e.1) x) → T (list_all (λ e. effect_fits_schema schema e.1) x)
      → T (all_fit t x) → Ordered (canonical_entries t x) → T (are_over schema t (canonical_entries t x))
  all_pass [] key shaped may h = tt
  all_pass (e ∷ x) key shaped may h =
      effect_passes e.0 e.1 (canonical_entries t x) (first (is_keyed_effect schema.key_cols e.0 e.1) _ key)
      (first (effect_fits_schema schema e.1) _ shaped) (first (fits (row_at t e.0) e.1) _ may) h
      (all_pass x (second (is_keyed_effect schema.key_cols e.0 e.1) _ key) (second (effect_fits_schema schema e.1) _ shaped)
      (second (fits (row_at t e.0) e.1) _ may) (after_front (entries_of (rank e.0 t) e.0 e.1) (canonical_entries t x) h))

  -- the entries of effects over the table pass
  pub entries_of_effects : (x : Effects) → AreOver schema t x → T (are_over schema t (canonical_entries t x))
  entries_of_effects x h =
      all_pass x (keyed schema t x h) (fitting schema t x h) (fit schema t x h)
      (passes (are_ordered schema.key_cols (canonical_entries t x)) (ordered schema t x h).ordered)
