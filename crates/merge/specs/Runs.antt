-- The values of a column's runs.
use Rattle.std.specs.Prelude.{◌≡◌, ◌+◌, ◌<◌, ◌≤◌, Option, MatchOption, List, [], ◌∷◌, ◌++◌, length, map, take, drop, IsTrue}
use Rattle.values.specs.Lent.{value_of}
use Rattle.values.specs.Shape.{has_type}
use Rattle.values.specs.declared.value.ColumnType.{ColumnType}
use Rattle.values.specs.declared.value.ColumnType.TheVariants as column
use Rattle.values.specs.declared.value.Value.{Value}
use Rattle.values.specs.declared.value.Value.TheVariants.{Int, Text, Bool as Truth}
use Rattle.blocks.specs.Column.{Column}
use Rattle.merge.specs.declared.run.Run.{Run}
use Rattle.merge.specs.declared.run.Run.TheVariants.{Ints, Texts, Truths, Value as One}
use Rattle.merge.specs.declared.run.ColumnRange.{ColumnRange}

-- the values of a run
abbrev pub run_values : Run → List Value
run_values (Ints numbers) = map Int numbers.now
run_values (Texts run) = map Text (take run.count (drop run.first run.texts.now))
run_values (Truths run) = map Truth (take run.count (drop run.first run.truths.now))
run_values (One value) = value_of value ∷ []

-- a run of values of the type, which lie within their block
abbrev pub IsRun : ColumnType → Run → Type 0
IsRun ty (Ints numbers) = ty ≡ column.Int
IsRun ty (Texts run) = (ty ≡ column.Text) × (run.first + run.count ≤ length run.texts.now)
IsRun ty (Truths run) = (ty ≡ column.Bool) × (run.first + run.count ≤ length run.truths.now)
IsRun ty (One value) = IsTrue (has_type ty (value_of value))

-- what a call that hands out the next run gives: all values come in order, no run is empty, and each is of the column's type
abbrev pub YieldsRun : Column → Option Run → Column → Type 0
YieldsRun old result new =
    MatchOption result ((old.values ≡ []) × (new ≡ old))
    (λ run. (old ≡ record { ty = new.ty; values = run_values run ++ new.values }) × (0 < length (run_values run)) × IsRun new.ty run)

-- the values of a range of a column
abbrev pub range_values : ColumnRange → List Value
range_values range = take range.count (drop range.first range.column.now.values)
