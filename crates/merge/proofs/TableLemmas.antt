-- Rows of an image put into columns.
use Rattle.std.proofs.Common.{◌≡◌, ℕ, ◌+◌, ◌-◌, ◌<◌, true, false, None, List, [], ◌∷◌, ◌++◌, length, take, drop, get_or, slice_get, Some, refl, sym, ap, subst, ◌∙◌, arith}
use Rattle.std.specs.List.{All}
use Rattle.std.proofs.lemmas.List.{take-map, drop-map, length-append, get_or_append_left, get_or-append_right}
use Rattle.std.proofs.lemmas.List.Elements.{All-head}
use Rattle.std.proofs.lemmas.Option.{get_or_from_slice_get}
use Rattle.values.specs.Shape.{Columns, has_type, is_too_long, list_fault}
use Rattle.values.specs.declared.row.Row.{Row}
use Rattle.values.specs.declared.value.ColumnType.{ColumnType}
use Rattle.values.specs.declared.value.ColumnType.TheVariants as column
use Rattle.values.specs.declared.value.Value.{Value}
use Rattle.values.specs.declared.value.Value.TheVariants.{Int, Text, Bool as Truth}
use Rattle.stable.specs.Stable.{IsStable}
use Rattle.stable.specs.Rows.{column_values}
use Rattle.stable.proofs.CallerLemmas.{no_build_fault, fit_at, width_of, all_shaped}
use Rattle.merge.specs.Fitting.{StandsAt}
use Rattle.merge.specs.Stretches.{stretch_rows, IsStableStretch}
use Rattle.merge.specs.declared.stretch.Stretch.TheVariants.{Stable, Row as One}
use Rattle.merge.specs.declared.stretch.StableStretch.{StableStretch}
use Rattle.merge.specs.View.{row_of}
use Rattle.merge.specs.declared.view.RowView.{RowView}
use Rattle.merge.proofs.StretchLemmas.{stretch_next}
use Rattle.std.proofs.lemmas.Grind.{common_steps}

-- a value is of one type
same_type : (a b : ColumnType) (v : Value) → has_type a v ≡ true → has_type b v ≡ true → a ≡ b
same_type column.Int column.Int v p q = refl
same_type column.Text column.Text v p q = refl
same_type column.Bool column.Bool v p q = refl
same_type column.Int column.Text (Int x) p q = cc q
same_type column.Int column.Text (Text x) p q = cc p
same_type column.Int column.Text (Truth x) p q = cc p
same_type column.Int column.Bool (Int x) p q = cc q
same_type column.Int column.Bool (Text x) p q = cc p
same_type column.Int column.Bool (Truth x) p q = cc p
same_type column.Text column.Int (Int x) p q = cc p
same_type column.Text column.Int (Text x) p q = cc q
same_type column.Text column.Int (Truth x) p q = cc p
same_type column.Text column.Bool (Int x) p q = cc p
same_type column.Text column.Bool (Text x) p q = cc q
same_type column.Text column.Bool (Truth x) p q = cc p
same_type column.Bool column.Int (Int x) p q = cc p
same_type column.Bool column.Int (Text x) p q = cc p
same_type column.Bool column.Int (Truth x) p q = cc q
same_type column.Bool column.Text (Int x) p q = cc p
same_type column.Bool column.Text (Text x) p q = cc p
same_type column.Bool column.Text (Truth x) p q = cc q

-- a stretch of stable rows has the column, and it is of the type
module _ (ty : ColumnType) (col : ℕ) (stretch : StableStretch) (is : IsStableStretch stretch) (kept : IsStable stretch.table.now)
    (stand : All (StandsAt ty col) (stretch_rows (Stable stretch))) where
  abbrev types : List ColumnType
  types = stretch.table.now.schema.types

  abbrev first : Row
  first = get_or stretch.table.now.rows stretch.sid []

  first_stands : StandsAt ty col first
  first_stands =
      All-head (StandsAt ty col) first (take (stretch.len - 1) (drop (stretch.sid + 1) stretch.table.now.rows))
      (subst (All (StandsAt ty col)) (stretch_next stretch is) stand)

  shaped : list_fault types first ≡ None
  shaped = grind (arith, common_steps, all_shaped, no_build_fault)

  pub has_column : col < length types
  has_column = omega (arith, first_stands.wide, width_of types first shaped)

  pub column_type : get_or types col column.Int ≡ ty
  column_type =
      same_type (get_or types col column.Int) ty (get_or first col (Truth false)) (fit_at types first col has_column shaped).typed
      first_stands.typed

  pub stretch_values :
      take stretch.len (drop stretch.sid (column_values col stretch.table.now.rows))
      ≡ column_values col (stretch_rows (Stable stretch))
  stretch_values =
      let cell = λ (row : Row). get_or row col (Truth false) in
      ap (take stretch.len) (drop-map cell stretch.sid stretch.table.now.rows)
      ∙ take-map cell stretch.len (drop stretch.sid stretch.table.now.rows)

-- the value of a single row is of the type, and no long text
module _ (ty : ColumnType) (col : ℕ) (view : RowView) (v : Value) (stand : All (StandsAt ty col) (stretch_rows (One view)))
    (e : slice_get (row_of view) col ≡ Some v) where
  cell_is : get_or (row_of view) col (Truth false) ≡ v
  cell_is = get_or_from_slice_get (row_of view) col v (Truth false) e

  pub view_typed : has_type ty v ≡ true
  view_typed = ap (has_type ty) (sym cell_is) ∙ (All-head (StandsAt ty col) (row_of view) [] stand).typed

  pub view_short : is_too_long v ≡ false
  view_short = ap is_too_long (sym cell_is) ∙ (All-head (StandsAt ty col) (row_of view) [] stand).short

  pub view_values : v ∷ [] ≡ column_values col (stretch_rows (One view))
  view_values = ap (λ x. x ∷ []) (sym cell_is)

-- ---- all rows

-- each row of a table may stand in each column
pub rows_stand : (schema : Columns) (rows : List Row) (col : ℕ) → IsStable (record { schema = schema; rows = rows })
    → col < length schema.types → All (StandsAt (get_or schema.types col column.Int) col) rows
rows_stand schema rows col h lt =
    λ k d within.
    let shaped = all_shaped schema rows (no_build_fault schema rows h) k d within in
    let fit = fit_at schema.types (get_or rows k d) col lt shaped in
    record { wide = omega (arith, lt, width_of schema.types (get_or rows k d) shaped); typed = fit.typed; short = fit.short }

module _ (ty : ColumnType) (col : ℕ) (rows rest all : List Row) (is : all ≡ rows ++ rest) (stand : All (StandsAt ty col) all) where
  pub left_stand : All (StandsAt ty col) rows
  left_stand =
      λ k d lt. subst (λ (row : Row). StandsAt ty col row) (ap (λ rs. get_or rs k d) is ∙ get_or_append_left rows rest d k lt)
      (stand k d (omega (arith, lt, ap (λ (rs : List Row). length rs) is, length-append rows rest)))

  pub right_stand : All (StandsAt ty col) rest
  right_stand =
      λ k d lt. subst (λ (row : Row). StandsAt ty col row) (ap (λ rs. get_or rs (length rows + k) d) is
      ∙ get_or-append_right rows rest (length rows) (length rows + k) d refl (omega arith)
      ∙ ap (λ n. get_or rest n d) (omega arith))
      (stand (length rows + k) d (omega (arith, lt, ap (λ (rs : List Row). length rs) is, length-append rows rest)))
