-- The fields of a row's cells.
use Rattle.std.specs.Prelude.{map}
use Rattle.values.specs.declared.row.Row.{Row}
use Rattle.values.specs.Shown.{cell_text}
use Rattle.inputs.specs.Reading.{Fields}

-- a row's record
abbrev pub row_fields : Row → Fields
row_fields row = map cell_text row
