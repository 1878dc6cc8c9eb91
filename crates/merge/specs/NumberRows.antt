-- What is left of an image, of which the numbers of a column are handed out.
use Rattle.std.specs.Prelude.{◌≡◌, ◌<◌, ◌++◌, ℕ, ℤ, Option, MatchOption, List, [], length}
use Rattle.std.specs.List.{All}
use Rattle.values.specs.declared.row.Row.{Row}
use Rattle.values.specs.declared.value.ColumnType.{ColumnType}
use Rattle.merge.specs.Cursor.{IsCursor, rows_left}
use Rattle.merge.specs.Filling.{IsWide, numbers_in}
use Rattle.merge.specs.ReadRows.{AreReadRows, HasReadColumn, rows_of_read}
use Rattle.merge.specs.declared.number_runs.NumberRun.{NumberRun}
use Rattle.merge.specs.declared.number_rows.NumberRows.{NumberRows}
use Rattle.merge.specs.declared.number_rows.NumberRows.TheVariants.{Committed, Own}

-- the rows that are left
abbrev pub number_rows_left : NumberRows → List Row
number_rows_left (Committed l) = rows_left l.cursor (rows_of_read l.below)
number_rows_left (Own l) = rows_left l.cursor (rows_left l.below.cursor (rows_of_read l.below.below))

-- each cursor is over the rows below it
abbrev pub AreNumberRows : NumberRows → Type 0
AreNumberRows (Committed l) = AreReadRows l.below × IsCursor (length (rows_of_read l.below)) l.cursor
AreNumberRows (Own l) =
    (AreReadRows l.below.below × IsCursor (length (rows_of_read l.below.below)) l.below.cursor)
    × IsCursor (length (rows_left l.below.cursor (rows_of_read l.below.below))) l.cursor

-- the numbers of the column may be handed out
abbrev pub HasNumberColumn : ColumnType → ℕ → NumberRows → Type 0
HasNumberColumn ty col (Committed l) = HasReadColumn ty col l.below × All (IsWide col) (rows_of_read l.below)
HasNumberColumn ty col (Own l) =
    (HasReadColumn ty col l.below.below × All (IsWide col) (rows_of_read l.below.below))
    × All (IsWide col) (rows_left l.below.cursor (rows_of_read l.below.below))

-- what a call that hands out the next run gives: all numbers come in order, and no run is empty
abbrev pub YieldsNumbers : List ℤ → Option NumberRun → List ℤ → Type 0
YieldsNumbers old result new =
    MatchOption result ((old ≡ []) × (new ≡ [])) (λ run. (old ≡ numbers_in run ++ new) × (0 < length (numbers_in run)))
