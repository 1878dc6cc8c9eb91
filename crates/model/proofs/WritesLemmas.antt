-- Effects stay lawful under composition, tables under effects, and both under each write.
use Rattle.std.proofs.Common.{◌≡◌, ℕ, ◌≤◌, Bool, true, cond, ◌&&◌, T, Option, Some, None, is_some, [], ◌∷◌, length, nat_cmp, nat_le, Less, Equal, Greater, is_eq, set, refl, sym, ◌∙◌, subst, arith, rules}
use Rattle.std.proofs.lemmas.Bool.Decides.{nat_tests}
use Rattle.std.proofs.lemmas.List.{take-set-le}
use Rattle.std.specs.Ordering.{eq_by_cmp}
use Rattle.std.specs.Cmp.{nat_cmp_total, tied_itself}
use Rattle.std.specs.FinMap.Entries.{by_order, is_sorted-put}
use Rattle.std.specs.List.{list_all}
use Rattle.values.specs.Orders.{key_cmp, key_cmp_total, key_cmp-IsAntisymmetric}
use Rattle.values.specs.declared.row.Row.{Row}
use Rattle.values.specs.declared.row.Key.{Key}
use Rattle.values.specs.declared.value.Value.{Value}
use Rattle.model.specs.declared.write.Write.{Write}
use Rattle.model.specs.declared.write.Write.TheVariants.{Insert, Delete, Set}
use Rattle.model.specs.Maps.{find, put, is_sorted}
use Rattle.model.specs.Table.{Table, row_at, is_keyed_table}
use Rattle.values.specs.Shape.{key_of}
use Rattle.model.specs.Effects.{Cells, has_cells, set_cells, Effects, fits, all_fit, row_after, table_with, is_keyed_effect, are_keyed_effects}
use Rattle.model.specs.Composition.{over_cells, composed_effect, composed_effects}
use Rattle.model.specs.declared.effect.Effect.{Effect}
use Rattle.model.specs.declared.effect.Effect.TheVariants.{Ins, Del, Mod, Rep}
use Rattle.model.specs.Writes.{key_of_write, effect_of_write, reply_where, reply_to, is_done, effects_after}
use Rattle.model.proofs.MapsLemmas.{both, first, second, changed_by, holds_at, each_at, each_from}
use Rattle.model.proofs.CompositionLemmas.{cells_ascend, Follows, table_with-composed_effects, all_fit-composed_effects, row_at-table_with, effect_at-composed_effects, sorted-table_with, sorted-composed_effects}
use Rattle.std.proofs.lemmas.Grind.{common_steps}

-- whether a write sets no key column
abbrev pub sets_no_key : ℕ → Write → Bool
sets_no_key key_cols (Insert row) = true
sets_no_key key_cols (Delete key) = true
sets_no_key key_cols (Set key col value) = nat_le key_cols col

tied_key : (k : Key) → T (eq_by_cmp key_cmp k k)
tied_key k = subst (λ r. T (is_eq r)) (sym (tied_itself key_cmp_total k)) tt

-- ---- cells outside the key

module _ (key_cols : ℕ) where
  abbrev outside : Cells → Bool
  outside cells = list_all (λ c. nat_le key_cols c.0) cells

  le_of : (n m : ℕ) → T (nat_le n m) → n ≤ m
  le_of n m h = grind (arith, nat_tests)

  key_of-set_cells : (cells : Cells) (row : Row) → T (outside cells) → key_of key_cols (set_cells cells row) ≡ key_of key_cols row
  key_of-set_cells [] row h = refl
  key_of-set_cells (c ∷ cells) row h =
      key_of-set_cells cells (set row c.0 c.1) (second _ _ h) ∙ take-set-le key_cols row c.0 c.1 (le_of _ _ (first _ _ h))

  outside-put : (c : ℕ) (v : Value) (cells : Cells) → T (nat_le key_cols c) → T (outside cells) → T (outside (put nat_cmp c v cells))
  outside-put c v [] p h = both _ _ p tt
  outside-put c v (d ∷ cells) p h =
      elim (nat_cmp c d.0) as (λ r. T (outside (by_order r ((c, v) ∷ d ∷ cells) ((d.0, v) ∷ cells) (d ∷ put nat_cmp c v cells)))) [
        | Less ↦ both _ _ p h
        | Equal ↦ h
        | Greater ↦ both _ _ (first _ _ h) (outside-put c v cells p (second _ _ h))
      ]

  some-put : (c : ℕ) (v : Value) (cells : Cells) → T (has_cells (put nat_cmp c v cells))
  some-put c v [] = tt
  some-put c v (d ∷ cells) = search rules

  abbrev is_cells : Cells → Bool
  is_cells cells = has_cells cells && (is_sorted nat_cmp cells && outside cells)

  is_cells-over : (cells later : Cells) → T (is_cells cells) → T (outside later) → T (is_cells (over_cells cells later))
  is_cells-over cells [] h g = h
  is_cells-over cells (c ∷ later) h g =
      let rest : T (is_sorted nat_cmp cells && outside cells) = second (has_cells cells) _ h in
      is_cells-over (put nat_cmp c.0 c.1 cells) later
      (both _ _ (some-put c.0 c.1 cells)
      (both _ _ (is_sorted-put nat_cmp nat_cmp_total c.0 c.1 cells (first _ _ rest))
      (outside-put c.0 c.1 cells (first _ _ g) (second (is_sorted nat_cmp cells) _ rest))))
      (second _ _ g)

  -- ---- one key

  outside_of : (cells : Cells) → T (is_cells cells) → T (outside cells)
  outside_of cells h = search rules

  keyed : (k : Key) (cells : Cells) (row : Row) → T (outside cells) → T (eq_by_cmp key_cmp k (key_of key_cols row))
      → T (eq_by_cmp key_cmp k (key_of key_cols (set_cells cells row)))
  keyed k cells row h g = subst (λ j. T (eq_by_cmp key_cmp k j)) (sym (key_of-set_cells cells row h)) g

  composed_effect-is_keyed_effect : (k : Key) (f : Effect) (x : Option Effect) → T (is_keyed_effect key_cols k f)
      → T (holds_at (is_keyed_effect key_cols k) x) → T (holds_at (is_keyed_effect key_cols k) (composed_effect f x))
  composed_effect-is_keyed_effect k f None p q = p
  composed_effect-is_keyed_effect k (Ins s) (Some (Ins r)) p q = q
  composed_effect-is_keyed_effect k (Ins s) (Some Del) p q = p
  composed_effect-is_keyed_effect k (Ins s) (Some (Mod d)) p q = q
  composed_effect-is_keyed_effect k (Ins s) (Some (Rep r)) p q = q
  composed_effect-is_keyed_effect k Del (Some (Ins r)) p q = tt
  composed_effect-is_keyed_effect k Del (Some Del) p q = tt
  composed_effect-is_keyed_effect k Del (Some (Mod d)) p q = tt
  composed_effect-is_keyed_effect k Del (Some (Rep r)) p q = tt
  composed_effect-is_keyed_effect k (Mod c) (Some (Ins r)) p q = keyed k c r (outside_of c p) q
  composed_effect-is_keyed_effect k (Mod c) (Some Del) p q = tt
  composed_effect-is_keyed_effect k (Mod c) (Some (Mod d)) p q = is_cells-over d c q (outside_of c p)
  composed_effect-is_keyed_effect k (Mod c) (Some (Rep r)) p q = keyed k c r (outside_of c p) q
  composed_effect-is_keyed_effect k (Rep s) (Some (Ins r)) p q = p
  composed_effect-is_keyed_effect k (Rep s) (Some Del) p q = tt
  composed_effect-is_keyed_effect k (Rep s) (Some (Mod d)) p q = p
  composed_effect-is_keyed_effect k (Rep s) (Some (Rep r)) p q = p

  abbrev is_row : Key → Row → Bool
  is_row k row = eq_by_cmp key_cmp k (key_of key_cols row)

  row_after-is_row : (k : Key) (f : Effect) (old : Option Row) → T (is_keyed_effect key_cols k f) → T (holds_at (is_row k) old)
      → T (holds_at (is_row k) (row_after f old))
  row_after-is_row k (Ins row) old p q = p
  row_after-is_row k Del old p q = tt
  row_after-is_row k (Mod cells) None p q = tt
  row_after-is_row k (Mod cells) (Some row) p q = keyed k cells row (outside_of cells p) q
  row_after-is_row k (Rep row) old p q = p

  -- ---- all keys

  maybe_joined : (k : Key) (g x : Option Effect) → T (holds_at (is_keyed_effect key_cols k) g)
      → T (holds_at (is_keyed_effect key_cols k) x) → T (holds_at (is_keyed_effect key_cols k) (changed_by composed_effect g x))
  maybe_joined k None x p q = q
  maybe_joined k (Some f) x p q = composed_effect-is_keyed_effect k f x p q

  maybe_changed : (k : Key) (g : Option Effect) (old : Option Row) → T (holds_at (is_keyed_effect key_cols k) g)
      → T (holds_at (is_row k) old) → T (holds_at (is_row k) (changed_by row_after g old))
  maybe_changed k None old p q = q
  maybe_changed k (Some f) old p q = row_after-is_row k f old p q

  abbrev effect_at : (effects : Effects) → T (are_keyed_effects key_cols effects) → (k : Key)
      → T (holds_at (is_keyed_effect key_cols k) (find key_cmp k effects))
  effect_at effects h k = each_at key_cmp key_cmp_total key_cmp-IsAntisymmetric (is_keyed_effect key_cols) effects (second _ _ h) k

  pub are_keyed_effects-composed_effects : (x f : Effects) → T (are_keyed_effects key_cols x) → T (are_keyed_effects key_cols f)
      → T (are_keyed_effects key_cols (composed_effects x f))
  are_keyed_effects-composed_effects x f hx hf =
      let sorted = sorted-composed_effects x f (first _ _ hx) in
      both _ _ sorted
      (each_from key_cmp key_cmp_total key_cmp-IsAntisymmetric (is_keyed_effect key_cols) (composed_effects x f) sorted
      (λ k. subst (λ g. T (holds_at (is_keyed_effect key_cols k) g)) (sym (effect_at-composed_effects x f k (first _ _ hf)))
      (maybe_joined k (find key_cmp k f) (find key_cmp k x) (effect_at f hf k) (effect_at x hx k))))

  pub is_keyed_table-table_with : (t : Table) (effects : Effects) → T (is_keyed_table key_cols t)
      → T (are_keyed_effects key_cols effects) → T (is_keyed_table key_cols (table_with t effects))
  is_keyed_table-table_with t effects ht he =
      let sorted = sorted-table_with t effects (first _ _ ht) in
      both _ _ sorted
      (each_from key_cmp key_cmp_total key_cmp-IsAntisymmetric is_row (table_with t effects) sorted
      (λ k. subst (λ old. T (holds_at (is_row k) old)) (sym (row_at-table_with t effects k (first _ _ he)))
      (maybe_changed k (find key_cmp k effects) (row_at t k) (effect_at effects he k)
      (each_at key_cmp key_cmp_total key_cmp-IsAntisymmetric is_row t (second _ _ ht) k))))

  ascends_of : (k : Key) (f : Effect) → T (is_keyed_effect key_cols k f) → T (cells_ascend f)
  ascends_of k (Ins row) h = tt
  ascends_of k Del h = tt
  ascends_of k (Mod cells) h = search rules
  ascends_of k (Rep row) h = tt

  all_ascend : (effects : Effects) → T (list_all (λ e. is_keyed_effect key_cols e.0 e.1) effects)
      → T (list_all (λ e. cells_ascend e.1) effects)
  all_ascend [] h = tt
  all_ascend (e ∷ effects) h = both _ _ (ascends_of e.0 e.1 (first _ _ h)) (all_ascend effects (second _ _ h))

  -- what the laws of two transactions in turn ask for
  pub follows : (t : Table) (x f : Effects) → T (is_keyed_table key_cols t) → T (are_keyed_effects key_cols x) → T (all_fit t x)
      → T (are_keyed_effects key_cols f) → T (all_fit (table_with t x) f) → Follows t x f
  follows t x f ht hx fx hf ff = grind (arith, common_steps, first, all_ascend, second)

  -- ---- one write

  module _ (limit : ℕ) (t : Table) (effects : Effects) (ht : T (is_keyed_table key_cols t))
      (he : T (are_keyed_effects key_cols effects)) (fe : T (all_fit t effects)) where
    -- the write alone, as effects
    abbrev pub alone : Write → Effects
    alone write = (key_of_write key_cols write, effect_of_write write) ∷ []

    alone-are_keyed_effects : (write : Write) → T (sets_no_key key_cols write) → T (are_keyed_effects key_cols (alone write))
    alone-are_keyed_effects (Insert row) h = both _ _ (tied_key (key_of key_cols row)) tt
    alone-are_keyed_effects (Delete key) h = tt
    alone-are_keyed_effects (Set key col value) h = both _ _ (both _ _ h tt) tt

    -- the effect of a write that is done fits what stood at its key
    pub done_fits : (old : Option Row) (count : ℕ) (write : Write) → T (is_done (reply_where limit (is_some old) count write))
        → T (fits old (effect_of_write write))
    done_fits None count (Insert row) h = tt
    done_fits (Some r) count (Insert row) h = absurd h
    done_fits None count (Delete key) h = absurd h
    done_fits (Some r) count (Delete key) h = tt
    done_fits None count (Set key col value) h = absurd h
    done_fits (Some r) count (Set key col value) h = tt

    -- what holds of the effects after a write
    pub record IsKept (effects' : Effects) (table : Table) : Type 0 where
      pub lawful : T (are_keyed_effects key_cols effects')
      pub fit : T (all_fit t effects')
      pub table_is : table_with t effects' ≡ table

    kept_done : (write : Write) → T (sets_no_key key_cols write) → T (is_done (reply_to key_cols limit t effects write))
        → IsKept (composed_effects effects (alone write)) (table_with (table_with t effects) (alone write))
    kept_done write hw done =
        let ha = alone-are_keyed_effects write hw in
        let fa =
        both _ _
        (done_fits (row_at (table_with t effects) (key_of_write key_cols write)) (length (table_with t effects)) write done)
        tt in
        let h = follows t effects (alone write) ht he fe ha fa in
        record {
          lawful = are_keyed_effects-composed_effects effects (alone write) he ha;
          fit = all_fit-composed_effects t effects (alone write) h;
          table_is = table_with-composed_effects t effects (alone write) h;
        }

    -- a write that is done is the write alone after the effects so far; another leaves them
    pub write_kept : (write : Write) → T (sets_no_key key_cols write)
        → IsKept (effects_after key_cols limit t effects write)
        (cond (is_done (reply_to key_cols limit t effects write)) (table_with (table_with t effects) (alone write))
        (table_with t effects))
    write_kept write hw = grind (arith, common_steps, kept_done)
