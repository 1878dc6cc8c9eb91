-- What may stand in a column: a value that is pushed, a block's values, a cell of the rows that columns show.
use Rattle.std.proofs.Common.{◌≡◌, Bool, true, false, not, ◌&&◌, List, [], ◌∷◌, ◌++◌, refl, sym, ◌∙◌, rules}
use Rattle.std.specs.List.{list_all}
use Rattle.std.proofs.lemmas.List.Folds.{list_all-append}
use Rattle.values.specs.Shape.{has_type, is_too_long}
use Rattle.values.specs.declared.value.ColumnType.{ColumnType}
use Rattle.values.specs.declared.value.ColumnType.TheVariants as column
use Rattle.values.specs.declared.value.Value.{Value}
use Rattle.values.specs.declared.value.Value.TheVariants.{Int, Text, Bool as Truth}
use Rattle.blocks.specs.Column.{Fits, AllFit}
use Rattle.stable.specs.Column.{may_stand, all_may_stand}
use Rattle.stable.proofs.RowsLemmas.{both_true}

stands : (a b : Bool) → a ≡ true → b ≡ false → (a && not b) ≡ true
stands true false p q = refl
stands true true p q = sym q
stands false b p q = p

-- a value that is typed and short may stand
pub one_stands : (ty : ColumnType) (v : Value) → has_type ty v ≡ true → is_too_long v ≡ false → all_may_stand ty (v ∷ [])
one_stands ty v typed short = both_true (may_stand ty v) true (stands (has_type ty v) (is_too_long v) typed short) refl

pub more_stand : (ty : ColumnType) (values more : List Value) → all_may_stand ty values → all_may_stand ty more
    → all_may_stand ty (values ++ more)
more_stand ty values more h k =
    list_all-append (may_stand ty) values more ∙ both_true (list_all (may_stand ty) values) (list_all (may_stand ty) more) h k

fit_stands : (ty : ColumnType) (v : Value) → Fits ty v → may_stand ty v ≡ true
fit_stands column.Int (Int x) h = refl
fit_stands column.Text (Text t) h = search rules
fit_stands column.Bool (Truth b) h = refl
fit_stands column.Int (Text t) h = absurd h
fit_stands column.Int (Truth b) h = absurd h
fit_stands column.Text (Int x) h = absurd h
fit_stands column.Text (Truth b) h = absurd h
fit_stands column.Bool (Int x) h = absurd h
fit_stands column.Bool (Text t) h = absurd h

-- and so may those of a block
pub block_stands : (ty : ColumnType) (values : List Value) → AllFit ty values → all_may_stand ty values
block_stands ty [] h = refl
block_stands ty (v ∷ values) h =
    both_true (may_stand ty v) (list_all (may_stand ty) values) (fit_stands ty v h.0) (block_stands ty values h.1)
