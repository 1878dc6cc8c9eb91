use Rattle.std.proofs.Common.{◌≡◌, ◌≤◌, ◌+◌, ◌-◌, ◌++◌, ◌∷◌, ℕ, List, []}
use Rattle.values.specs.declared.limits.TheConstants.{MAX_ROWS}
use Rattle.inputs.specs.Cells.{prepend}
use Rattle.inputs.specs.Filling.{rows_in, types_in}
use Rattle.inputs.specs.Input.{numbered_rows}
use Rattle.inputs.specs.Reading.{Fields, IsReading}
use Rattle.inputs.proofs.FillingLemmas.{AreLong}
use Rattle.inputs.proofs.loading.read_rows.Given as goal

-- the records so far lead to where the reader stands, and their rows are those that the columns show
abbrev pub invariant-loop-number : goal.invariant-loop-number
invariant-loop-number l = record {
  some : 2 ≤ l.number;
  few : l.number ≤ MAX_ROWS + 2;
  typed : types_in l.columns.items ≡ l.types;
  long : AreLong (l.number - 2) l.columns.items;
  reading :
      (read : List Fields)
      × ((text : List ℕ) (header : Fields) → IsReading text (header ∷ []) l.fn.reader → IsReading text (header ∷ read) l.reader)
      × ((more : List Fields) → numbered_rows l.types 2 (read ++ more)
      ≡ prepend (rows_in (l.number - 2) l.columns.items) (numbered_rows l.types l.number more));
}
