-- One transaction's effects after another's are those of one transaction.
use Rattle.std.proofs.Common.{◌≡◌, ◌≢◌, ℕ, Bool, true, T, Option, Some, None, [], ◌∷◌, nat_cmp, Less, Equal, Greater, is_lt, set, set-set, refl, sym, ap, ◌∙◌, subst, arith}
use Rattle.std.proofs.lemmas.List.{set_comm}
use Rattle.std.specs.Cmp.{nat_cmp_total, tied_itself}
use Rattle.std.specs.FinMap.{nat_cmp-IsAntisymmetric}
use Rattle.std.specs.FinMap.Entries.{by_order, below_all, is_sorted-put}
use Rattle.std.specs.List.{list_all}
use Rattle.values.specs.Orders.{key_cmp, key_cmp_total, key_cmp-IsAntisymmetric}
use Rattle.values.specs.declared.row.Row.{Row}
use Rattle.values.specs.declared.row.Key.{Key}
use Rattle.values.specs.declared.value.Value.{Value}
use Rattle.model.specs.Maps.{find, put, is_sorted}
use Rattle.model.specs.Table.{Table, row_at}
use Rattle.model.specs.Effects.{Cells, set_cells, Effects, fits, all_fit, row_after, table_with}
use Rattle.model.specs.Composition.{over_cells, composed_effect, composed_effects}
use Rattle.model.specs.declared.effect.Effect.{Effect}
use Rattle.model.specs.declared.effect.Effect.TheVariants.{Ins, Del, Mod, Rep}
use Rattle.model.proofs.MapsLemmas.{both, first, second, less, changed_by, find-alter_all, sorted-alter_all, holds_at, each_at, each_from, same_map}
use Rattle.std.proofs.lemmas.Grind.{common_steps}

-- ---- cells

differ : (c d : ℕ) → nat_cmp c d ≡ Less → c ≢ d
differ c d p e = let q : nat_cmp c d ≡ Equal = ap (nat_cmp c) (sym e) ∙ tied_itself nat_cmp_total c in cc

-- a cell of a lower column than all the others may be set before or after them
pub set_cells_move : (c : ℕ) (v : Value) (cells : Cells) (row : Row) → T (below_all nat_cmp c cells)
    → set_cells cells (set row c v) ≡ set (set_cells cells row) c v
set_cells_move c v [] row h = refl
set_cells_move c v (d ∷ cells) row h =
    ap (set_cells cells) (set_comm row c d.0 v d.1 (differ c d.0 (less _ (first _ _ h))))
    ∙ set_cells_move c v cells (set row d.0 d.1) (second _ _ h)

-- one more cell is set last
set_cells_put : (c : ℕ) (v : Value) (cells : Cells) (row : Row) → T (is_sorted nat_cmp cells)
    → set_cells (put nat_cmp c v cells) row ≡ set (set_cells cells row) c v
set_cells_put c v [] row h = refl
set_cells_put c v (d ∷ cells) row h =
    elim (nat_cmp c d.0) as
    (λ r. nat_cmp c d.0 ≡ r → set_cells (by_order r ((c, v) ∷ d ∷ cells) ((d.0, v) ∷ cells) (d ∷ put nat_cmp c v cells)) row
    ≡ set (set_cells (d ∷ cells) row) c v) [
      | Less ↦ λ p.
          ap (set_cells cells) (set_comm row c d.0 v d.1 (differ c d.0 p))
          ∙ set_cells_move c v cells (set row d.0 d.1) (below c d.0 cells p (first _ _ h))
      | Equal ↦ λ p.
          let same = nat_cmp-IsAntisymmetric c d.0 p in
          ap (set_cells cells) (sym (set-set row d.0 d.1 v))
          ∙ set_cells_move d.0 v cells (set row d.0 d.1) (first _ _ h)
          ∙ ap (λ i. set (set_cells (d ∷ cells) row) i v) (sym same)
      | Greater ↦ λ p. set_cells_put c v cells (set row d.0 d.1) (second _ _ h)
    ] refl
  where
    below : (c d : ℕ) (cells : Cells) → nat_cmp c d ≡ Less → T (below_all nat_cmp d cells) → T (below_all nat_cmp c cells)
    below c d [] p h = tt
    below c d (e ∷ cells) p h =
        both _ _ (subst (λ r. T (is_lt r)) (sym (nat_cmp_total.trans c d e.0 p (less _ (first _ _ h)))) tt)
        (below c d cells p (second _ _ h))

pub set_cells_over : (cells later : Cells) (row : Row) → T (is_sorted nat_cmp cells)
    → set_cells (over_cells cells later) row ≡ set_cells later (set_cells cells row)
set_cells_over cells [] row h = refl
set_cells_over cells (c ∷ later) row h =
    set_cells_over (put nat_cmp c.0 c.1 cells) later row (is_sorted-put nat_cmp nat_cmp_total c.0 c.1 cells h)
    ∙ ap (set_cells later) (set_cells_put c.0 c.1 cells row h)

-- ---- one key

-- the cells that an effect sets stand in ascending column
abbrev pub cells_ascend : Effect → Bool
cells_ascend (Ins row) = true
cells_ascend Del = true
cells_ascend (Mod cells) = is_sorted nat_cmp cells
cells_ascend (Rep row) = true

-- the joined effect is the later one after the first
pub composed_effect-row_after : (f : Effect) (x : Option Effect) (old : Option Row) → T (holds_at (fits old) x)
    → T (holds_at cells_ascend x) → T (fits (changed_by row_after x old) f)
    → changed_by row_after (composed_effect f x) old ≡ row_after f (changed_by row_after x old)
composed_effect-row_after f None old fit asc later = refl
composed_effect-row_after (Ins s) (Some (Ins r)) old fit asc later = absurd later
composed_effect-row_after (Ins s) (Some Del) old fit asc later = refl
composed_effect-row_after (Ins s) (Some (Mod d)) (Some r) fit asc later = absurd later
composed_effect-row_after (Ins s) (Some (Mod d)) None fit asc later = absurd fit
composed_effect-row_after (Ins s) (Some (Rep r)) old fit asc later = absurd later
composed_effect-row_after Del (Some (Ins r)) None fit asc later = refl
composed_effect-row_after Del (Some (Ins r)) (Some q) fit asc later = absurd fit
composed_effect-row_after Del (Some Del) old fit asc later = absurd later
composed_effect-row_after Del (Some (Mod d)) old fit asc later = refl
composed_effect-row_after Del (Some (Rep r)) old fit asc later = refl
composed_effect-row_after (Mod c) (Some (Ins r)) old fit asc later = refl
composed_effect-row_after (Mod c) (Some Del) old fit asc later = absurd later
composed_effect-row_after (Mod c) (Some (Mod d)) None fit asc later = absurd fit
composed_effect-row_after (Mod c) (Some (Mod d)) (Some r) fit asc later = ap Some (set_cells_over d c r asc)
composed_effect-row_after (Mod c) (Some (Rep r)) old fit asc later = refl
composed_effect-row_after (Rep s) (Some (Ins r)) old fit asc later = refl
composed_effect-row_after (Rep s) (Some Del) old fit asc later = absurd later
composed_effect-row_after (Rep s) (Some (Mod d)) old fit asc later = refl
composed_effect-row_after (Rep s) (Some (Rep r)) old fit asc later = refl

-- and fits where the first one does
pub composed_effect-all_fit : (f : Effect) (x : Option Effect) (old : Option Row) → T (holds_at (fits old) x)
    → T (fits (changed_by row_after x old) f) → T (holds_at (fits old) (composed_effect f x))
composed_effect-all_fit f None old fit later = later
composed_effect-all_fit (Ins s) (Some (Ins r)) old fit later = absurd later
composed_effect-all_fit (Ins s) (Some Del) old fit later = fit
composed_effect-all_fit (Ins s) (Some (Mod d)) old fit later = fit
composed_effect-all_fit (Ins s) (Some (Rep r)) old fit later = absurd later
composed_effect-all_fit Del (Some (Ins r)) old fit later = tt
composed_effect-all_fit Del (Some Del) old fit later = absurd later
composed_effect-all_fit Del (Some (Mod d)) old fit later = fit
composed_effect-all_fit Del (Some (Rep r)) old fit later = fit
composed_effect-all_fit (Mod c) (Some (Ins r)) old fit later = fit
composed_effect-all_fit (Mod c) (Some Del) old fit later = absurd later
composed_effect-all_fit (Mod c) (Some (Mod d)) old fit later = fit
composed_effect-all_fit (Mod c) (Some (Rep r)) old fit later = fit
composed_effect-all_fit (Rep s) (Some (Ins r)) old fit later = fit
composed_effect-all_fit (Rep s) (Some Del) old fit later = absurd later
composed_effect-all_fit (Rep s) (Some (Mod d)) old fit later = fit
composed_effect-all_fit (Rep s) (Some (Rep r)) old fit later = fit

-- ---- all keys

-- what stands at a key after effects
pub row_at-table_with : (t : Table) (effects : Effects) (key : Key) → T (is_sorted key_cmp effects)
    → row_at (table_with t effects) key ≡ changed_by row_after (find key_cmp key effects) (row_at t key)
row_at-table_with t effects key h = find-alter_all key_cmp key_cmp_total row_after effects t key h

-- the composed effect on a key is that of the first, followed by that of the second where it has one
pub effect_at-composed_effects : (x f : Effects) (key : Key) → T (is_sorted key_cmp f)
    → find key_cmp key (composed_effects x f) ≡ changed_by composed_effect (find key_cmp key f) (find key_cmp key x)
effect_at-composed_effects x f key h = find-alter_all key_cmp key_cmp_total composed_effect f x key h

pub sorted-table_with : (t : Table) (effects : Effects) → T (is_sorted key_cmp t) → T (is_sorted key_cmp (table_with t effects))
sorted-table_with t effects h = sorted-alter_all key_cmp key_cmp_total row_after effects t h

-- composed effects stand in ascending key where the first do
pub sorted-composed_effects : (x f : Effects) → T (is_sorted key_cmp x) → T (is_sorted key_cmp (composed_effects x f))
sorted-composed_effects x f h = sorted-alter_all key_cmp key_cmp_total composed_effect f x h

-- of effects that all fit a table, the one on a key, if any, fits what stands there
pub fits_at_key : (t : Table) (effects : Effects) → T (all_fit t effects) → (key : Key)
    → T (holds_at (fits (row_at t key)) (find key_cmp key effects))
fits_at_key t effects h key = each_at key_cmp key_cmp_total key_cmp-IsAntisymmetric (λ k f. fits (row_at t k) f) effects h key

pub fits_from_keys : (t : Table) (effects : Effects) → T (is_sorted key_cmp effects)
    → ((key : Key) → T (holds_at (fits (row_at t key)) (find key_cmp key effects))) → T (all_fit t effects)
fits_from_keys t effects h all = each_from key_cmp key_cmp_total key_cmp-IsAntisymmetric (λ k f. fits (row_at t k) f) effects h all

-- the premises on two transactions, the second over the table after the first
pub record Follows (t : Table) (x f : Effects) : Type 0 where
  pub table_sorted : T (is_sorted key_cmp t)
  pub x_sorted : T (is_sorted key_cmp x)
  pub x_ascends : T (list_all (λ e. cells_ascend e.1) x)
  pub x_fits : T (all_fit t x)
  pub f_sorted : T (is_sorted key_cmp f)
  pub f_fits : T (all_fit (table_with t x) f)

module _ (t : Table) (x f : Effects) (h : Follows t x f) where
  x_at : (key : Key) → T (holds_at (fits (row_at t key)) (find key_cmp key x))
  x_at key = fits_at_key t x h.x_fits key

  ascends_at : (key : Key) → T (holds_at cells_ascend (find key_cmp key x))
  ascends_at key = each_at key_cmp key_cmp_total key_cmp-IsAntisymmetric (λ k e. cells_ascend e) x h.x_ascends key

  f_at : (key : Key) → T (holds_at (fits (changed_by row_after (find key_cmp key x) (row_at t key))) (find key_cmp key f))
  f_at key = grind (arith, common_steps, holds_at, row_at-table_with, fits_at_key)

  one_key : (g y : Option Effect) (old : Option Row) → T (holds_at (fits old) y) → T (holds_at cells_ascend y)
      → T (holds_at (fits (changed_by row_after y old)) g)
      → changed_by row_after (changed_by composed_effect g y) old ≡ changed_by row_after g (changed_by row_after y old)
  one_key None y old a b c = refl
  one_key (Some g) y old a b c = composed_effect-row_after g y old a b c

  one_fits : (g y : Option Effect) (old : Option Row) → T (holds_at (fits old) y)
      → T (holds_at (fits (changed_by row_after y old)) g) → T (holds_at (fits old) (changed_by composed_effect g y))
  one_fits None y old a c = a
  one_fits (Some g) y old a c = composed_effect-all_fit g y old a c

  -- applying the composed effects is applying one after the other
  pub table_with-composed_effects : table_with t (composed_effects x f) ≡ table_with (table_with t x) f
  table_with-composed_effects =
      same_map key_cmp key_cmp_total key_cmp-IsAntisymmetric _ _
      (sorted-table_with t (composed_effects x f) h.table_sorted)
      (sorted-table_with (table_with t x) f (sorted-table_with t x h.table_sorted))
      (λ key.
      row_at-table_with t (composed_effects x f) key (sorted-composed_effects x f h.x_sorted)
      ∙ ap (λ g. changed_by row_after g (row_at t key)) (effect_at-composed_effects x f key h.f_sorted)
      ∙ one_key (find key_cmp key f) (find key_cmp key x) (row_at t key) (x_at key) (ascends_at key) (f_at key)
      ∙ sym (row_at-table_with (table_with t x) f key h.f_sorted
      ∙ ap (changed_by row_after (find key_cmp key f)) (row_at-table_with t x key h.x_sorted)))

  -- and the composed effects fit
  pub all_fit-composed_effects : T (all_fit t (composed_effects x f))
  all_fit-composed_effects = grind (arith, common_steps, fits_from_keys, sorted-composed_effects, holds_at, effect_at-composed_effects, one_fits, x_at, f_at)
