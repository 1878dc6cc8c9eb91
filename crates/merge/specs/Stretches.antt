-- The rows of stretches.
use Rattle.std.specs.Prelude.{◌≡◌, ℕ, ◌+◌, ◌<◌, ◌≤◌, Option, MatchOption, List, [], ◌∷◌, ◌++◌, length, take, drop}
use Rattle.values.specs.declared.row.Row.{Row}
use Rattle.values.specs.declared.limits.TheConstants.{MAX_ROWS}
use Rattle.merge.specs.View.{row_of, row_over, IsBare}
use Rattle.merge.specs.declared.stretch.Stretch.{Stretch}
use Rattle.merge.specs.declared.stretch.Stretch.TheVariants.{Stable, Row as One}
use Rattle.merge.specs.declared.stretch.StableStretch.{StableStretch}

-- the rows of a stretch
abbrev pub stretch_rows : Stretch → List Row
stretch_rows (Stable stretch) = take stretch.len (drop stretch.sid stretch.table.now.rows)
stretch_rows (One view) = row_of view ∷ []

-- the rows of a stretch, were these the stable rows
abbrev pub stretch_over : List Row → Stretch → List Row
stretch_over base (Stable stretch) = take stretch.len (drop stretch.sid base)
stretch_over base (One view) = row_over base view ∷ []

-- the next rows over these stable rows are those of the stretch, read over them
pub record PassesOver (base old : List Row) (stretch : Stretch) (new : List Row) : Type 0 where
  pub rows : old ≡ stretch_over base stretch ++ new
  pub count : length (stretch_over base stretch) ≡ length (stretch_rows stretch)

-- some rows of a stable table
pub record IsStableStretch (stretch : StableStretch) : Type 0 where
  pub some : 0 < stretch.len
  pub within : stretch.sid + stretch.len ≤ length stretch.table.now.rows
  pub few : length stretch.table.now.rows ≤ MAX_ROWS

-- a stretch of at least one row, which no layer from that number on modifies
abbrev pub IsStretch : ℕ → Stretch → Type 0
IsStretch depth (Stable stretch) = IsStableStretch stretch
IsStretch depth (One view) = IsBare depth view

-- what a call that hands out the next stretch gives: all rows come, no stretch is empty, and stable rows are in their table
abbrev pub YieldsStretch : List Row → Option Stretch → List Row → Type 0
YieldsStretch old result new =
    MatchOption result ((old ≡ []) × (new ≡ []))
    (λ stretch. (old ≡ stretch_rows stretch ++ new) × (0 < length (stretch_rows stretch)) × IsStretch 3 stretch)
