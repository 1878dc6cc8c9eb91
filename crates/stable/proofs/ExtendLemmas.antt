-- A value among those that may stand in a column.
use Rattle.std.proofs.Common.{◌≡◌, ℕ, Bool, true, false, not, ◌&&◌, List, slice_get, Some, refl, ap, ◌∙◌}
use Rattle.std.proofs.lemmas.List.Folds.{list_all_at}
use Rattle.std.proofs.lemmas.Option.{slice_get_within, get_or_from_slice_get}
use Rattle.values.specs.Shape.{has_type, is_too_long}
use Rattle.values.specs.declared.value.ColumnType.{ColumnType}
use Rattle.values.specs.declared.value.Value.{Value}
use Rattle.stable.specs.Column.{may_stand, all_may_stand}

both : (a b : Bool) → (a && not b) ≡ true → (a ≡ true) × (b ≡ false)
both true false h = (refl, refl)
both true true h = cc h
both false b h = cc h

-- a value that stands in a column is typed and short
pub stands_at : (ty : ColumnType) (values : List Value) (i : ℕ) (v : Value) → slice_get values i ≡ Some v
    → all_may_stand ty values → (has_type ty v ≡ true) × (is_too_long v ≡ false)
stands_at ty values i v e h = both (has_type ty v) (is_too_long v) (by (may_stand ty v) refl)
  where
    by : (b : Bool) → may_stand ty v ≡ b → may_stand ty v ≡ true
    by true p = p
    by false p =
        let none =
        list_all_at (may_stand ty) values i v (slice_get_within values i v e)
        (ap (may_stand ty) (get_or_from_slice_get values i v v e) ∙ p) in
        cc (h, none)
