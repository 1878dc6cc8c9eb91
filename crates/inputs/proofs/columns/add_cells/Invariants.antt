use Rattle.std.proofs.Common.{◌≡◌, List, length, drop}
use Rattle.csv.specs.Records.{fields_of}
use Rattle.values.specs.declared.value.Value.{Value}
use Rattle.inputs.specs.Cells.{prepend}
use Rattle.inputs.specs.Filling.{extended, types_in}
use Rattle.inputs.specs.Input.{cells_of}
use Rattle.inputs.proofs.columns.add_cells.Given as goal

-- the cells so far are in the columns, and with those of what is left they are those of all
abbrev pub invariant-loop-i : goal.invariant-loop-i
invariant-loop-i l =
    (cells : List Value) × (length cells ≡ l.i) × (l.columns.items ≡ extended l.fn.columns.items cells)
    × (cells_of l.number 0 (types_in l.fn.columns.items) (fields_of l.fields)
    ≡ prepend cells (cells_of l.number l.i (drop l.i (types_in l.fn.columns.items)) (drop l.i (fields_of l.fields))))
