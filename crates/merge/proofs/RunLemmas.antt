-- Runs of a column, and what is left past them.
use Rattle.std.proofs.Common.{◌≡◌, ℕ, zero, suc, ◌+◌, ◌-◌, ◌<◌, ◌≤◌, Bool, true, false, T, Option, Some, None, List, [], ◌∷◌, ◌++◌, length, map, take, drop, get_or, refl, ap, ◌∙◌, arith}
use Rattle.std.specs.Prelude.{is_none}
use Rattle.std.specs.List.{All, list_all}
use Rattle.std.proofs.Math.Seq.{take-add}
use Rattle.std.proofs.lemmas.List.{drop-drop, take-map, drop-map}
use Rattle.values.specs.Shape.{Columns, row_fault, fits_schema}
use Rattle.values.specs.declared.fault.ShapeFault.{ShapeFault}
use Rattle.values.specs.declared.row.Row.{Row}
use Rattle.values.specs.declared.value.ColumnType.TheVariants as column
use Rattle.values.specs.declared.value.Value.{Value}
use Rattle.model.specs.Table.{table_of, IsTable}
use Rattle.model.proofs.CallerLemmas.{first, second}
use Rattle.stable.specs.Rows.{column_values}
use Rattle.stable.proofs.CallerLemmas.{fit_at, width_of}
use Rattle.merge.specs.Fitting.{StandsAt}
use Rattle.merge.specs.Runs.{range_values}
use Rattle.merge.specs.declared.run.ColumnRange.{ColumnRange}
use Rattle.std.proofs.lemmas.Grind.{common_steps}

-- the first of so many values, and the others
pub range_next : (values : List Value) (first count n : ℕ) → n ≤ count
    → take count (drop first values) ≡ take n (drop first values) ++ take (count - n) (drop (first + n) values)
range_next values first count n le =
    let is : count ≡ n + (count - n) = omega (arith, le) in
    ap (λ m. take m (drop first values)) is
    ∙ take-add n (count - n) (drop first values)
    ∙ ap (λ rest. take n (drop first values) ++ take (count - n) rest) (drop-drop n first values)

-- a run of items that stand for values is a run of these
pub run_mapped : {X : Type 0} (f : X → Value) (xs : List X) (values : List Value) (first count n : ℕ) → map f xs ≡ values → n ≡ count
    → map f (take n (drop first xs)) ≡ take count (drop first values)
run_mapped f xs values first count n is same = grind (arith, common_steps, drop-map, first, take-map)

-- ---- the next stretch, where nothing is left of the one before

pub nothing_left : (range : ColumnRange) → range.count ≤ 0 → range_values range ≡ []
nothing_left range none = let is : range.count ≡ 0 = omega (arith, none) in ap (λ n. take n (drop range.first range.column.now.values)) is

pub values_next : (col : ℕ) (range : ColumnRange) (own rest all : List Row) (values : List Value) → range.count ≤ 0 → all ≡ own ++ rest
    → values ≡ column_values col own → range_values range ++ column_values col all ≡ values ++ column_values col rest
values_next col range own rest all values none is own_are = grind (arith, common_steps)

-- ---- rows of a table

no_fault : (fault : Option ShapeFault) → T (is_none fault) → fault ≡ None
no_fault (Some fault) h = absurd h
no_fault None h = refl

all_fit : (schema : Columns) (rows : List Row) → T (list_all (λ e. fits_schema schema e.1) (table_of schema.key_cols rows))
    → (k : ℕ) (d : Row) → k < length rows → row_fault schema (get_or rows k d) ≡ None
all_fit schema [] h k d lt = absurd (omega arith)
all_fit schema (row ∷ rows) h zero d lt = no_fault (row_fault schema row) (first (fits_schema schema row) _ h)
all_fit schema (row ∷ rows) h (suc k) d lt = all_fit schema rows (second (fits_schema schema row) _ h) k d (omega arith)

-- each row of a table may stand in each column
pub table_stands : (schema : Columns) (rows : List Row) (col : ℕ) → IsTable schema (table_of schema.key_cols rows)
    → col < length schema.types → All (StandsAt (get_or schema.types col column.Int) col) rows
table_stands schema rows col table lt =
    λ k d within.
    let shaped = all_fit schema rows (holds _ table.fitting) k d within in
    let fit = fit_at schema.types (get_or rows k d) col lt shaped in
    record { wide = omega (arith, lt, width_of schema.types (get_or rows k d) shaped); typed = fit.typed; short = fit.short }
  where
    holds : (b : Bool) → b ≡ true → T b
    holds true h = tt
    holds false h = cc h
