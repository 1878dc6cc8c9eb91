-- Columns that rows are put into.
use Rattle.std.specs.Prelude.{ℕ, ◌+◌, List, [], ◌∷◌, ◌++◌}
use Rattle.values.specs.declared.row.Row.{Row}
use Rattle.blocks.specs.Column.{Column}
use Rattle.stable.specs.Rows.{column_values}

-- the columns, of which the first has this number, with the values of more rows at their ends
abbrev pub grown : ℕ → List Column → List Row → List Column
grown n [] rows = []
grown n (c ∷ columns) rows = record { ty = c.ty; values = c.values ++ column_values n rows } ∷ grown (n + 1) columns rows
